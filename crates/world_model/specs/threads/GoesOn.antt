-- Orders of what a pass has seen go on to orders of all.
use Rattle.std.specs.Prelude.{List, length, ℕ, ◌++◌, ◌∷◌, ◌≡◌}
use Rattle.site_vector.specs.declared.ids.PartId.{PartId}
use Rattle.crdt_core.specs.KindsOf.{Kinds}
use Rattle.world_model.specs.rules.Partition.{PartState}
use Rattle.world_model.specs.rules.World.{IsWorldRun}
use Rattle.world_model.specs.threads.Marks.{Mark, entries_of}
use Rattle.world_model.specs.threads.Merging.{all_places, merged}
use Rattle.world_model.specs.threads.AreTraces.{AreTraces}
use Rattle.world_model.specs.threads.Orders.{IsOrderOf}
use Rattle.world_model.specs.threads.Views.{IsPart}
use Rattle.world_model.specs.threads.Steps.{with_step}

-- each such order is a run of the world; one of what a pass has seen goes on to one of all, the rest on top; and so it goes on by a step
abbrev pub LawGoesOn : (S E : Type 0) → Type 0
LawGoesOn S E = (kinds : Kinds S E) (sites parts : ℕ) (traces view : PartId → List (Mark E)) (state : PartId → PartState E) → AreTraces kinds sites parts traces state →
    ((ms : List (Mark E)) → IsOrderOf traces ms → IsWorldRun kinds sites parts (entries_of ms) state)
    × ((v : IsPart view traces) (base : List (Mark E)) → IsOrderOf view base → IsOrderOf traces (merged (all_places sites parts) v.rest ++ base))
    × ((m : Mark E) (ms : List (Mark E)) → IsPart view traces → ((q : PartId) → m.seen q ≡ length (view q)) → IsOrderOf traces ms → IsOrderOf (with_step m traces) (m ∷ ms))
