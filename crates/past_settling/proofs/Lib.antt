pub mod BackLemmas
mod OneLemmas
mod QueueLemmas
