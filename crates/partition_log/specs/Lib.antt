pub mod Codec
pub mod Logs
pub mod Appends
pub mod Damage
pub mod Gates
