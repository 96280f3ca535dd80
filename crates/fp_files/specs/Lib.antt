pub mod Calls
pub mod Causes
pub mod Files
pub mod Output
pub mod Sets
pub mod inside
