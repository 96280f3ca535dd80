pub mod Calls
pub mod Looks
pub mod Progress
pub mod inside
