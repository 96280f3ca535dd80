pub mod Fits
mod Areas
mod Formats
pub mod Groups
mod Looking
pub mod Replays
pub mod Results
mod NoDedbs
pub mod Firsts
mod Intervals
pub mod NumbersBehind
