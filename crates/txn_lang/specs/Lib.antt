pub mod Statements
pub mod Blocks
pub mod Grammar
pub mod Building
pub mod Numbers
pub mod Suiting
pub mod inside
