pub mod Building
pub mod Keywords
pub mod Rows
