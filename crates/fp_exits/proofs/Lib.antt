pub mod SpreadLemmas
