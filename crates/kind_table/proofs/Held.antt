-- All updates that a state holds have spellings, where those have that made it.
use Rattle.std.proofs.Common.{◌≡◌, Bool, true, sym, ◌∙◌, subst, ⊎_elim}
use Rattle.std.proofs.lemmas.Bool.{true≢false, or_cases}
use Rattle.site_vector.specs.declared.ids.Dot.{Dot}
use Rattle.site_vector.specs.Ids.{same_dot}
use Rattle.site_vector.specs.Order.{same_dot_is}
use Rattle.crdt_core.specs.Spelled.{is_dot}
use Rattle.crdt_core.specs.Seen.{Update}
use Rattle.crdt_core.specs.Law.{KeepsSteps}
use Rattle.crdt_core.specs.EffectForm.{HoldsSpelled}

module _ {S E : Type 0} {initial : S} {step : S → Dot → E → S} {make : S → Update → E} {names : E → Dot → Bool} {holds : S → Dot → Bool} (steps : KeepsSteps initial step make names holds) where
  pub none_held_spelled : HoldsSpelled holds initial
  none_held_spelled d h = absurd (true≢false (sym h ∙ steps.none_held d))

  pub held_spelled : (s : S) (d : Dot) (e : E) → is_dot d ≡ true → HoldsSpelled holds s → HoldsSpelled holds (step s d e)
  held_spelled s d e good held x h =
      ⊎_elim (λ before. held x before) (λ own. subst (λ y. is_dot y ≡ true) (same_dot_is d x own) good) (or_cases (holds s x) (same_dot d x) (steps.held s d e x h))
