pub mod Pieces
pub mod Pairs
pub mod Walking
