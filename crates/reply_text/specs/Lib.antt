pub mod Places
pub mod Values
pub mod Members
pub mod Texts
pub mod Text
pub mod Words
pub mod Updated
pub mod Json
