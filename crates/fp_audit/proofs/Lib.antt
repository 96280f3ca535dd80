pub mod Founds
pub mod LegalLemmas
pub mod Loads
pub mod NumberLemmas
pub mod RequestLemmas
pub mod StateLemmas
