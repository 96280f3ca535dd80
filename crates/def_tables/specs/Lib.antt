pub mod Readings
pub mod Values
pub mod Keys
pub mod Fields
pub mod Loads
pub mod inside
