pub mod Checkpoints
pub mod LogRows
pub mod Preferred
