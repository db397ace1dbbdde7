-- What an opening answers, and what a restart makes of it.
use Rattle.std.proofs.Common.{◌≡◌, ℕ, Result, Ok, Err}
use Rattle.std.specs.Prelude.{IfOk, IfErr}
use Rattle.gate_log.specs.declared.error.OpenError.{OpenError}
use Rattle.gate_log.specs.declared.error.OpenError.TheVariants as open_error
use Rattle.partition_core.specs.declared.restart.RestartError.TheVariants.{Damaged}
use Rattle.partition_core.specs.Restarts.{unopened}

pub map_ok : {A X : Type 0} {P Q : A → Type 0} (r : Result A X) → ((x : A) → P x → Q x) → IfOk r P → IfOk r Q
map_ok (Ok x) f p = f x p
map_ok (Err x) f p = tt

pub map_both : {A X : Type 0} {P Q R : A → Type 0} (r : Result A X) → ((x : A) → P x → Q x → R x) → IfOk r P → IfOk r Q → IfOk r R
map_both (Ok x) f p q = f x p q
map_both (Err x) f p q = tt

pub map_err : {A X : Type 0} {P Q : X → Type 0} (r : Result A X) → ((x : X) → P x → Q x) → IfErr r P → IfErr r Q
map_err (Ok x) f p = tt
map_err (Err x) f p = f x p

-- a restart tells the place of the damage that the opening told
pub opens_damaged : (e : OpenError) (at : ℕ) → unopened e ≡ Damaged at → e ≡ open_error.Damaged at
opens_damaged open_error.Failed at h = absurd cc
opens_damaged (open_error.Damaged place) at h = cc
opens_damaged open_error.NoMemory at h = absurd cc
