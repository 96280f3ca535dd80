pub mod WayLemmas
pub mod StandingLemmas
