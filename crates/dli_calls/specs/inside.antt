pub mod Progress
pub mod Readiness
