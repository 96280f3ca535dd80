pub mod Parts
pub mod Sealing
pub mod Making
pub mod Formats
pub mod SoundLogs
