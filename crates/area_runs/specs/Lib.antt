pub mod Bank
pub mod Types
