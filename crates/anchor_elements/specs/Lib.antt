pub mod Elements
pub mod Wrong
pub mod Puts
pub mod Spelling
pub mod Reading
pub mod inside
