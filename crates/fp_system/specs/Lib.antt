pub mod Courses
pub mod Ims
pub mod Table
pub mod Gives
pub mod inside
