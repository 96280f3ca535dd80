pub mod Redo
pub mod Standing
pub mod Steps
pub mod Restart
pub mod Waiting
pub mod Example
