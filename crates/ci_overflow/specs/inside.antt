pub mod Moves
pub mod Rooms
