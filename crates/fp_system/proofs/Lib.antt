pub mod Results
pub mod Ways
pub mod Ended
pub mod Went
pub mod Begins
pub mod Due
pub mod Runs
pub mod CauseLemmas
mod SentTexts
mod Audits
pub mod OldLogs
mod Migrations
mod Restarted
mod Making
mod Calls
