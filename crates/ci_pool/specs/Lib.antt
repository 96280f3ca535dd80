pub mod Cells
pub mod Changes
pub mod Trees
pub mod Held
pub mod inside
