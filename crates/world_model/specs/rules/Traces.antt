-- The trace of a partition: its own events in a run, each a step of its own.
use Rattle.std.specs.Prelude.{◌≡◌, ℕ, if◌then◌else◌, List, [], ◌∷◌}
use Rattle.site_vector.specs.declared.ids.PartId.{PartId}
use Rattle.site_vector.specs.Ids.{same_part}
use Rattle.crdt_core.specs.KindsOf.{Kinds}
use Rattle.world_model.specs.rules.Event.{Event, Entry}
use Rattle.world_model.specs.rules.Partition.{PartState, new_part, PartStep}
use Rattle.world_model.specs.rules.World.{IsWorldRun}

module _ {E : Type 0} where
  -- the events at p, the newest first
  abbrev pub trace_of : PartId → List (Entry E) → List (Event E)
  trace_of p [] = []
  trace_of p (e ∷ run) = if same_part e.at p then e.event ∷ trace_of p run else trace_of p run

  -- from a new partition on each event is a step, and they leave the partition so
  abbrev pub IsTrace : {S : Type 0} → Kinds S E → ℕ → ℕ → PartId → List (Event E) → PartState E → Type 0
  IsTrace kinds sites parts p [] state = state ≡ new_part sites parts
  IsTrace kinds sites parts p (event ∷ trace) state = (before : PartState E) × IsTrace kinds sites parts p trace before × PartStep kinds sites parts p before event state

-- each partition of a run of the world has made its trace
abbrev pub LawTraces : (S E : Type 0) → Type 0
LawTraces S E = (kinds : Kinds S E) (sites parts : ℕ) (run : List (Entry E)) (state : PartId → PartState E) → IsWorldRun kinds sites parts run state → (p : PartId) → IsTrace kinds sites parts p (trace_of p run) (state p)
