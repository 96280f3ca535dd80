pub mod Queues
pub mod inside
