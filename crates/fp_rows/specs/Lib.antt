pub mod Customers
pub mod Hex
pub mod Numbered
pub mod Retries
pub mod Sample
pub mod States
