pub mod Comparing
pub mod Telling
