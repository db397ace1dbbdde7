pub mod Fields
pub mod Updates
pub mod Parts
pub mod Heads
pub mod Messages
pub mod Records
pub mod Whole
pub mod Leases
