pub mod EffectForm
pub mod Filled
pub mod Ready
