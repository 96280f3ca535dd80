pub mod Images
pub mod Log
pub mod Reads
