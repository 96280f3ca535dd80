pub mod ContinuedLemmas
pub mod FaultLemmas
