pub mod Readings
pub mod Tokens
pub mod Parts
pub mod Lookups
