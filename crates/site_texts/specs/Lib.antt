pub mod Sent
pub mod Texts
pub mod inside
