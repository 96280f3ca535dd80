pub mod Lengths
pub mod Readable
