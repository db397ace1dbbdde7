pub mod Joined
pub mod Front
pub mod Plain
pub mod OneDigit
pub mod MemberOrder
pub mod Escapes
