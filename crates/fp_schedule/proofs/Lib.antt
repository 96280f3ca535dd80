pub mod AreaLemmas
pub mod EventLemmas
pub mod FaultLemmas
pub mod TokenLemmas
