pub mod Ending
pub mod Judging
pub mod Numbers
