pub mod CauseLemmas
pub mod Jobs
