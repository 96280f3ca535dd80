mod Verdict
mod Judging
mod Logs
pub mod Readings
