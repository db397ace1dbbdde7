pub mod Fits
pub mod Held
