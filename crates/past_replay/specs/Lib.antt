pub mod Ends
pub mod Setup
pub mod States
pub mod inside
