pub mod Heads
pub mod StageLemmas
