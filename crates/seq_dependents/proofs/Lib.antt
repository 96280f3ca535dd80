pub mod Placing
pub mod Controls
pub mod FaultLemmas
pub mod Writes
pub mod Fillings
pub mod Appends
pub mod Downs
pub mod LawLemmas
