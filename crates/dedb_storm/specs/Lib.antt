pub mod Bank
pub mod Bench
