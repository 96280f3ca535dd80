pub mod Looks
pub mod Progress
pub mod Readiness
pub mod Targets
pub mod inside
