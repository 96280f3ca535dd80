pub mod Banks
pub mod Benches
pub mod Endings
