pub mod Looking
pub mod Staging
pub mod Items
pub mod Flags
pub mod Changing
pub mod inside
