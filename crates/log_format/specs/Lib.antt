pub mod Reading
pub mod Laws
pub mod EntryReading
pub mod Faults
pub mod inside
