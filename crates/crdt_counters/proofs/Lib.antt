pub mod Ascending
pub mod Sums
