pub mod EffectForm
