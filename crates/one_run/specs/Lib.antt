pub mod Unfailing
pub mod Shows
pub mod Tells
pub mod Leases
pub mod OneRun
