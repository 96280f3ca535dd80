pub mod Alone
pub mod Turned
pub mod Counted
pub mod Seals
pub mod Runs
