pub mod Calls
pub mod Errs
