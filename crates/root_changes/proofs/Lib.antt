pub mod ComparingLemmas
pub mod GainingLemmas
