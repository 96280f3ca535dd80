pub mod Memory
pub mod inside
