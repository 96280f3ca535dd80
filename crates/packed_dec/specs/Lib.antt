pub mod Halves
pub mod Fields
