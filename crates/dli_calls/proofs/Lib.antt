pub mod AnswerLemmas
mod MsdbLemmas
pub mod ReadyLemmas
pub mod StoreLemmas
pub mod TargetLemmas
pub mod KnowLemmas
