-- The own bound, and the end of a message, in other words: the last time below which nothing is pending.
use Rattle.std.specs.Prelude.{◌≡◌, ◌↔◌, ℕ, ◌<◌, ◌≤◌, Bool, true, List, ⊤}
use Rattle.site_vector.specs.declared.ids.PartId.{PartId}
use Rattle.site_vector.specs.declared.ids.TxId.{TxId}
use Rattle.crdt_core.specs.declared.kind.Kind.{Kind}
use Rattle.crdt_core.specs.declared.object.Field.{Field}
use Rattle.crdt_core.specs.declared.value.Value.{Value}
use Rattle.crdt_core.specs.Seen.{Update}
use Rattle.world_model.specs.declared.step.Step.{Step}
use Rattle.world_model.specs.declared.step.Step.TheVariants as step
use Rattle.world_model.specs.lines.Listed.{IsBoundBy}
use Rattle.world_model.specs.lines.Lines.{Call, Line, EachLine}
use Rattle.world_model.specs.lines.Clock.{now}
use Rattle.world_model.specs.lines.Pending.{pending, prepare_time}
use Rattle.world_model.specs.lines.Lawful.{IsLawful}

-- exactly the times that the clock has reached and that are below the prepare time of all that is pending are at most b
abbrev pub IsUpTo : ℕ → (TxId → Bool) → (TxId → ℕ) → ℕ → Type 0
IsUpTo now pending prepared b = (n : ℕ) → (n ≤ b) ↔ ((n ≤ now) × ((u : TxId) → pending u ≡ true → n < prepared u))

-- a message ends there
abbrev pub EndsThere : List Line → PartId → Call → Step → Type 0
EndsThere before p call (step.Sent number q to lo hi count) = IsUpTo (now before p) (pending before p) (prepare_time before p) hi
EndsThere before p call other = ⊤

pub record LawBound : Type 0 where
  pub own : (now : ℕ) (pending : TxId → Bool) (prepared : TxId → ℕ) (b : ℕ) → IsBoundBy now pending prepared b → IsUpTo now pending prepared b
  -- in every lawful run
  pub sent : (too_deep : Kind → List Field → Bool) (meaning : Kind → List Update → Value) (sites parts : ℕ) (ls : List Line) → IsLawful too_deep meaning sites parts ls → EachLine EndsThere ls
