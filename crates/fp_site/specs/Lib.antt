pub mod Disk
pub mod Moments
pub mod Site
pub mod Written
pub mod inside
