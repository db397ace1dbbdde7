pub mod EffectForm
pub mod LwwForm
pub mod MvForm
