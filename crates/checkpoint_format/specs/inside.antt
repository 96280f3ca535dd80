pub mod Order
pub mod Terminals
