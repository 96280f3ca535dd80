pub mod Anchors
pub mod Arguments
pub mod Calls
pub mod Edits
pub mod Inserts
pub mod Progress
pub mod Searches
