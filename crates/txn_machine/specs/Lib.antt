pub mod Fit
pub mod Knowing
pub mod Places
pub mod Running
pub mod inside
