pub mod Areas
pub mod Starts
