pub mod Pieces
pub mod Errs
pub mod LineLemmas
