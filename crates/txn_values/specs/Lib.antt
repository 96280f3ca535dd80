pub mod Fields
pub mod Giving
pub mod Lending
pub mod inside
