pub mod Backlog
pub mod Numbered
pub mod inside
