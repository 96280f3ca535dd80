pub mod Legal
pub mod Faults
pub mod Verdicts
pub mod inside
