pub mod Alike
pub mod Doing
pub mod Filling
pub mod Fit
pub mod Knowing
pub mod Running
pub mod Stepping
pub mod Work
