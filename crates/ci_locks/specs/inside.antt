pub mod Graph
pub mod Regions
pub mod Sets
pub mod Standing
