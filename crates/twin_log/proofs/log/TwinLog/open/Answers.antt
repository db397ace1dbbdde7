use Rattle.std.proofs.Common.{◌≡◌, Result, Ok, Err}
use Rattle.gate_log.specs.declared.error.OpenError.{OpenError}
use Rattle.twin_log.proofs.log.TwinLog.open.Goals as goal

abbrev refusal : {T : Type 0} → OpenError → Result T OpenError
refusal e = Err e

same_refusal : {T : Type 0} (d e : OpenError) → refusal {T = T} d ≡ refusal e → d ≡ e
same_refusal d e h = cc

never_refused : {T P : Type 0} (x : T) (e : OpenError) → Ok x ≡ refusal {T = T} e → P
never_refused x e h = absurd cc

pub returns-in-Ok-clause-exact : goal.returns-in-Ok-clause-exact
returns-in-Ok-clause-exact g c = λ at told damaged.
    never_refused _ _ (c.in-Ok.ensures.exact at told damaged (λ h. never_refused _ _ h) (λ h. never_refused _ _ h))

pub returns-in-Err-clause-exact : goal.returns-in-Err-clause-exact
returns-in-Err-clause-exact g c = λ at told damaged no_fault memory.
    same_refusal _ _ (c.in-Err.ensures.exact at told damaged (λ h. no_fault (same_refusal _ _ h)) (λ h. memory (same_refusal _ _ h)))
