pub mod Texts
pub mod Answers
pub mod Causes
pub mod Parts
pub mod Setups
pub mod inside
