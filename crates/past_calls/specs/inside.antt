pub mod Needs
pub mod Readiness
