pub mod Damage
pub mod inside
