pub mod Differing
pub mod Comparing
pub mod Gaining
pub mod Telling
pub mod inside
