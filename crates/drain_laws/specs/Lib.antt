pub mod Measure
pub mod Live
pub mod Rounds
pub mod ProductGauge
