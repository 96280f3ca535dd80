pub mod Acting
pub mod Answering
pub mod Ending
pub mod Numbering
pub mod Reading
pub mod Rounding
pub mod Sealing
pub mod Standing
