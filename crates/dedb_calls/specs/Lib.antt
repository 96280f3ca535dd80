pub mod Anchors
pub mod Calls
pub mod Progress
pub mod Readiness
pub mod inside
