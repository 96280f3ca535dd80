pub mod Databases
pub mod Fullness
pub mod inside
