pub mod Aside
pub mod Bodies
pub mod Calls
pub mod Fronts
pub mod Openings
pub mod Shutting
