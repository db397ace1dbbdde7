pub mod Digests
pub mod Places
pub mod Putting
pub mod Founds
