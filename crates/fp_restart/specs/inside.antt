pub mod Begun
pub mod Numbers
pub mod Replayed
