pub mod Places
pub mod States
pub mod Changes
pub mod Databases
pub mod inside
