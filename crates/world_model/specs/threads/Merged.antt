-- The law of the merged run.
use Rattle.std.specs.Prelude.{List, ℕ}
use Rattle.site_vector.specs.declared.ids.PartId.{PartId}
use Rattle.crdt_core.specs.KindsOf.{Kinds}
use Rattle.world_model.specs.rules.Partition.{PartState}
use Rattle.world_model.specs.rules.World.{IsWorldRun}
use Rattle.world_model.specs.threads.Marks.{Mark, entries_of}
use Rattle.world_model.specs.threads.Merging.{all_places, merged}
use Rattle.world_model.specs.threads.AreTraces.{AreTraces}
use Rattle.world_model.specs.threads.Orders.{IsOrderOf, IsSorted}

-- traces merge into a run of the world, in which each partition's steps stand in the order of its trace, and each step after all that its caller had seen
abbrev pub LawMerged : (S E : Type 0) → Type 0
LawMerged S E = (kinds : Kinds S E) (sites parts : ℕ) (traces : PartId → List (Mark E)) (state : PartId → PartState E) → AreTraces kinds sites parts traces state → IsWorldRun kinds sites parts (entries_of (merged (all_places sites parts) traces)) state × IsOrderOf traces (merged (all_places sites parts) traces) × IsSorted (merged (all_places sites parts) traces)
