pub mod Runs
pub mod Images
pub mod Torns
pub mod Frames
pub mod Sendings
pub mod Ranges
