-- What the calls of a session come to that wait.
use Rattle.std.specs.Prelude.{ℕ, Bool, false, List}
use Rattle.site_vector.specs.Vector.{entry}
use Rattle.site_vector.specs.declared.ids.PartId.{PartId}
use Rattle.crdt_core.specs.declared.object.ObjectId.{ObjectId}
use Rattle.crdt_core.specs.declared.operation.Op.{Op}
use Rattle.crdt_core.specs.Placing.{place_of}
use Rattle.world_model.specs.declared.commit.What.{What}
use Rattle.world_model.specs.declared.commit.What.TheVariants as what
use Rattle.world_model.specs.declared.step.Step.{Step}
use Rattle.world_model.specs.rules.Event.{led_by, Ask, AskRead, AskUpdate, AskPrepare}
use Rattle.txn_session.specs.Calls.{Call}
use Rattle.txn_session.specs.Session.{Txn, Doing, Open, Ending, SessionState, own_updates, updates_of, place_in}
use Rattle.txn_session.specs.Holds.{MakesRead, MakesUpdate, MakesStep, Waits}
use Rattle.txn_session.specs.Waits.{is_late, Later}

module _ {E S P : Type 0} (sees : S → P → List (Call E) → Type 0) (numbers : P → ℕ → Bool) (shows : ℕ → Type 0) (store : S) (pass : P) (run : List (Call E)) (old new : SessionState E) where
  -- once its call of the partition waited
  abbrev pub Once : Txn E → PartId → Ask E → Bool → (List (Call E) → Type 0) → Type 0
  Once txn at ask late Goes = Later (numbers pass) shows (entry txn.s at.site) txn.by at ask late Goes run

  abbrev pub place_for : ObjectId → PartId
  place_for o = place_in old (place_of o.bucket o.key old.parts)

  -- a read of the object was asked
  abbrev pub ReadsLater : ObjectId → Step → Doing E → Type 0
  ReadsLater o answer (Open txn) = Once txn (place_for o) (AskRead txn.tx txn.s o (own_updates txn.updates o)) (is_late answer) (λ rest. MakesRead sees numbers store pass rest old new o answer old.doing)
  ReadsLater o answer other = ⊥

  -- or wasn't, for want of memory
  abbrev pub ReadWaits : ObjectId → Doing E → Type 0
  ReadWaits o (Open txn) = Once txn (place_for o) (AskRead txn.tx txn.s o (own_updates txn.updates o)) false (λ rest. Waits sees numbers store pass rest old new)
  ReadWaits o other = Waits sees numbers store pass run old new

  -- an update of the object was asked
  abbrev pub UpdatesLater : ObjectId → Op → Step → Doing E → Type 0
  UpdatesLater o op answer (Open txn) = Once txn (place_for o) (AskUpdate txn.tx txn.s o (own_updates txn.updates o) op) (is_late answer) (λ rest. MakesUpdate sees numbers store pass rest old new o op answer old.doing)
  UpdatesLater o op answer other = ⊥

  abbrev pub UpdateWaits : ObjectId → Op → Doing E → Type 0
  UpdateWaits o op (Open txn) = Once txn (place_for o) (AskUpdate txn.tx txn.s o (own_updates txn.updates o) op) false (λ rest. Waits sees numbers store pass rest old new)
  UpdateWaits o op other = Waits sees numbers store pass run old new

  -- the step that is next at the end of a transaction was made; a vote alone waits
  abbrev pub StepsLater : Step → Doing E → What → Type 0
  StepsLater answer (Ending txn lead commit) (what.Prepare p) = Once txn (place_in old p) (AskPrepare txn.tx txn.s (led_by lead) (updates_of old.parts txn.updates p)) (is_late answer) (λ rest. MakesStep sees numbers store pass rest old new answer (Ending txn lead commit) (what.Prepare p))
  StepsLater answer doing other = MakesStep sees numbers store pass run old new answer doing other

  abbrev pub StepWaits : Doing E → What → Type 0
  StepWaits (Ending txn lead commit) (what.Prepare p) = Once txn (place_in old p) (AskPrepare txn.tx txn.s (led_by lead) (updates_of old.parts txn.updates p)) false (λ rest. Waits sees numbers store pass rest old new)
  StepWaits doing other = Waits sees numbers store pass run old new
