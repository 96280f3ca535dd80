pub mod Cycles
pub mod Graph
pub mod Holdings
pub mod Regions
pub mod Sets
pub mod Standing
pub mod Table
pub mod inside
