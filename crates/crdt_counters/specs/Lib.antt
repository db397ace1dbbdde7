pub mod EffectForm
pub mod Exact
pub mod Total
