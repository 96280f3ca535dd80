pub mod Element
pub mod Interval
pub mod Head
pub mod Numbers
pub mod Calls
pub mod Memory
pub mod Walk
pub mod inside
