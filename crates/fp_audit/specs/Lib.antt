pub mod Audit
pub mod Numbers
pub mod Setup
pub mod Standing
pub mod inside
