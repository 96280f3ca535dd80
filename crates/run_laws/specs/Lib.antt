pub mod Requests
pub mod Fresh
pub mod Lives
pub mod Determined
pub mod Starts
pub mod Sample
pub mod Holding
pub mod inside
