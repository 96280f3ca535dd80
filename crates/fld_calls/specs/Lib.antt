pub mod Forms
pub mod Settling
pub mod inside
