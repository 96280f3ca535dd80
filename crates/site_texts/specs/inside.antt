pub mod Groups
pub mod Sent
