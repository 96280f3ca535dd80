mod EndLemmas
mod GoingLemmas
mod HoldingLemmas
mod Keeping
mod ListLemmas
pub mod SettledLemmas
mod ShapeLemmas
