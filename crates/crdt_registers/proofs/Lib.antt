pub mod Ready
pub mod OneAssign
