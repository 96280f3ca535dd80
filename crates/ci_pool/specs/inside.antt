pub mod Changes
pub mod Trees
