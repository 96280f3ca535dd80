pub mod Runs
pub mod TokenLemmas
pub mod ReadingLemmas
pub mod Shrinking
pub mod PartLemmas
pub mod LookupLemmas
