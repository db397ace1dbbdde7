pub mod Bare
pub mod Kinds
pub mod Plain
