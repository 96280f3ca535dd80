pub mod EntryReading
pub mod Sizes
