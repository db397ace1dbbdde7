pub mod EffectForm
pub mod TextCode
