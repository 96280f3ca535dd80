pub mod Comparing
pub mod Digits
mod Fronts
mod Heads
pub mod Kept
pub mod Letters
mod ListBytes
pub mod ListLemmas
pub mod Names
pub mod NumberSizes
pub mod ReadLemmas
pub mod SettleLemmas
pub mod TryLemmas
pub mod WriteLemmas
