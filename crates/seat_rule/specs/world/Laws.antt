-- What the rule of seats asks of a law, of traces of the world.
use Rattle.std.specs.Prelude.{◌≡◌, Bool, true, ℕ, List, [], ◌∷◌, ◌++◌}
use Rattle.site_vector.specs.declared.ids.PartId.{PartId}
use Rattle.crdt_core.specs.KindsOf.{Kinds}
use Rattle.world_model.specs.rules.Event.{Event}
use Rattle.world_model.specs.threads.Marks.{Mark}
use Rattle.world_model.specs.threads.Orders.{IsOrderOf}
use Rattle.world_model.specs.threads.Views.{NoneBears}
use Rattle.seat_rule.specs.declared.view.Noted.{Noted}
use Rattle.seat_rule.specs.declared.view.Past.{Past}
use Rattle.seat_rule.specs.Lists.{has, at, grown}
use Rattle.seat_rule.specs.Laws.{KeepsParts, MayAdd}
use Rattle.seat_rule.specs.world.Traces.{word_of, mark_of, traces_of, IsLawful}
use Rattle.seat_rule.specs.world.Calls.{IsCallOf}

-- no traces are traces of the world, and parts of such traces are
abbrev pub LawSeats : (S E T : Type 0) → Type 0
LawSeats S E T = (event_of : T → Event E) (sites parts : ℕ) (kinds : Kinds S E) (ok : Event E → Bool) →
    IsLawful event_of sites parts kinds (λ e. ok e ≡ true) (λ p. []) × KeepsParts (IsLawful event_of sites parts kinds (λ e. ok e ≡ true))

-- after a call by a pass they are, and the order that the pass had goes on: by what others did, who bear none of its numbers, and then by the step
abbrev pub LawSteps : (S E T : Type 0) → Type 0
LawSteps S E T = (event_of : T → Event E) (sites parts : ℕ) (kinds : Kinds S E) (ok : Event E → Bool) (all old : Past T) → IsLawful event_of sites parts kinds (λ e. ok e ≡ true) (at all.lists) → (base : List (Mark E)) (p : PartId) (e : Noted T) → IsCallOf event_of sites parts kinds (λ e. ok e ≡ true) all old base p e →
    MayAdd (IsLawful event_of sites parts kinds (λ e. ok e ≡ true)) all (word_of parts p) e
    × ((more : List (Mark E)) × NoneBears (has old.numbers) more × IsOrderOf (traces_of event_of sites parts (at (grown all.lists (word_of parts p) e))) (mark_of event_of sites parts p e ∷ (more ++ base)))
