pub mod Told
mod Shown
mod Whole
mod Restarted
mod Lines
