pub mod PastLaws
mod PastLemmas
mod Showing
mod Values
pub mod OfPasts
