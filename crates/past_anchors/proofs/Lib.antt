pub mod Areas
pub mod Dropping
pub mod Fulls
pub mod Inserting
pub mod Lists
pub mod Standing
