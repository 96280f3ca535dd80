pub mod Changing
pub mod Staging
