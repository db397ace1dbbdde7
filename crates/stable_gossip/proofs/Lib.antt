pub mod Heard
pub mod Least
