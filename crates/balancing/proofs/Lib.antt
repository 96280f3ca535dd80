pub mod NameLemmas
pub mod QueueLemmas
mod LastLemmas
mod GroupLemmas
