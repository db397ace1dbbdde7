pub mod Lists
pub mod Sizes
pub mod Views
pub mod Notes
pub mod Laws
pub mod Kept
pub mod world
