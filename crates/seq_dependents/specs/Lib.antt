pub mod Slots
pub mod Control
pub mod Faults
pub mod Puts
pub mod Down
pub mod inside
