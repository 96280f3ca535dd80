pub mod Element
pub mod Walk
