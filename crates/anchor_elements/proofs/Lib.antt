pub mod Pointers
pub mod SpellingLemmas
pub mod ReadLemmas
pub mod ElementLemmas
