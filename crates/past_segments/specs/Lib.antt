pub mod Pasts
pub mod Times
pub mod inside
