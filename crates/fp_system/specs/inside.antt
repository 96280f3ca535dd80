pub mod Acted
pub mod Answers
pub mod Courses
