pub mod Faults
pub mod Places
pub mod Putting
pub mod Rooms
pub mod Steps
pub mod Store
pub mod Touches
