pub mod Ranges
pub mod First
pub mod Kinds
