pub mod Twin
pub mod Damage
pub mod Payloads
pub mod Rests
pub mod Found
pub mod Logs
