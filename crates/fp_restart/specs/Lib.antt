pub mod Restarts
pub mod Replayed
pub mod Faults
pub mod inside
