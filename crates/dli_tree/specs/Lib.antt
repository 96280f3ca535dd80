pub mod Paths
pub mod InOrder
pub mod Changes
pub mod Descents
pub mod inside
