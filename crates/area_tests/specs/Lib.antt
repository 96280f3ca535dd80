pub mod Lone
pub mod Types
