pub mod Wholes
pub mod Joins
pub mod Streams
pub mod Leases
