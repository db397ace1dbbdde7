pub mod Digits
pub mod Acts
pub mod Utf8
pub mod Cuts
pub mod Lists
pub mod Quoted
pub mod Fronts
