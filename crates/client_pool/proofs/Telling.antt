-- What is known of an answer, once it is told what it is to a client.
use Rattle.std.proofs.Common.{◌≡◌, refl, sym, ap, ◌∙◌}
use Rattle.std.specs.Prelude.{Result, Ok, Err}
use Rattle.world_model.specs.declared.step.Step.{Step}
use Rattle.client_pool.specs.declared.outcome.Outcome.{Outcome}
use Rattle.client_pool.specs.declared.outcome.Outcome.TheVariants as outcome
use Rattle.client_pool.specs.declared.outcome.Reply.{Reply}
use Rattle.client_pool.specs.declared.outcome.Reply.TheVariants as reply
use Rattle.client_pool.specs.Outcomes.{outcome_of}
use Rattle.client_pool.specs.Told.{told_as, told_of}

abbrev line_of : Step → Reply → Step
line_of line (reply.Done told) = told
line_of line other = line

as_done : (o : Outcome) (line told : Step) → told_as o line ≡ reply.Done told → (o ≡ outcome.Done) × (line ≡ told)
as_done outcome.Done line told h = (refl, ap (line_of line) h)
as_done outcome.Again line told h = absurd cc
as_done outcome.Stopped line told h = absurd cc

as_again : (o : Outcome) (line : Step) → told_as o line ≡ reply.Again → o ≡ outcome.Again
as_again outcome.Done line h = absurd cc
as_again outcome.Again line h = refl
as_again outcome.Stopped line h = absurd cc

as_stopped : (o : Outcome) (line : Step) → told_as o line ≡ reply.Stopped → o ≡ outcome.Stopped
as_stopped outcome.Done line h = absurd cc
as_stopped outcome.Again line h = absurd cc
as_stopped outcome.Stopped line h = refl

module _ {X : Type 0} where
  pub told_done : (r : Result Step X) (line : Step) → told_of r ≡ reply.Done line → (r ≡ Ok line) × (outcome_of line ≡ outcome.Done)
  told_done (Ok l) line h =
      let x = as_done (outcome_of l) l line h in
      ((λ i. Ok (x.1 i)), ap outcome_of (sym x.1) ∙ x.0)
  told_done (Err e) line h = absurd cc

  pub told_again : (r : Result Step X) → told_of r ≡ reply.Again → (line : Step) × (r ≡ Ok line) × (outcome_of line ≡ outcome.Again)
  told_again (Ok l) h = (l, refl, as_again (outcome_of l) l h)
  told_again (Err e) h = absurd cc

  pub told_stopped : (r : Result Step X) → told_of r ≡ reply.Stopped → (line : Step) × (r ≡ Ok line) × (outcome_of line ≡ outcome.Stopped)
  told_stopped (Ok l) h = (l, refl, as_stopped (outcome_of l) l h)
  told_stopped (Err e) h = absurd cc
