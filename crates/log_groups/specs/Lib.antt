pub mod Images
pub mod Kept
pub mod Log
pub mod Reads
pub mod inside
