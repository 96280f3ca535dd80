mod AloneLemmas
pub mod HandLemmas
mod MsdbLemmas
mod NeedLemmas
mod PastLemmas
mod ReadyLemmas
pub mod TargetLemmas
