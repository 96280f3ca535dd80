pub mod Stops
pub mod Answered
