pub mod Fullness
pub mod Inserts
pub mod Places
pub mod Purges
