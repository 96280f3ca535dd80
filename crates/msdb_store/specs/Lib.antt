pub mod Changes
pub mod Settling
pub mod Slots
pub mod Store
pub mod Touches
pub mod inside
