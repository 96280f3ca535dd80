pub mod Calls
pub mod Faults
pub mod History
pub mod Sets
pub mod Laws
pub mod Past
pub mod Memory
pub mod inside
