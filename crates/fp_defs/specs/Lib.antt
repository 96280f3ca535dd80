pub mod Msdbs
pub mod Segments
pub mod Areas
pub mod Dedbs
pub mod Whole
pub mod Exits
pub mod inside
