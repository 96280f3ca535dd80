pub mod Alone
pub mod Progress
pub mod Readiness
pub mod Roots
pub mod Targets
pub mod inside
