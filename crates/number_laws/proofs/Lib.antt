pub mod Places
pub mod Lasting
pub mod Used
