pub mod Applied
pub mod Asked
pub mod Making
pub mod Readings
pub mod Returned
pub mod Sizes
pub mod WrittenLines
