pub mod Aims
pub mod Changes
pub mod Paths
pub mod Reaches
