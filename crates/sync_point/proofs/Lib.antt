pub mod Endings
pub mod Found
pub mod Keeping
mod Placing
pub mod Refusals
pub mod Replies
pub mod Scripts
pub mod Segments
pub mod Settlements
pub mod Stores
