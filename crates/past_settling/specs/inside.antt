pub mod Queues
pub mod Settling
