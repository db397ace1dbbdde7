-- What a pass has seen of traces are traces, and so are traces with a step that its caller may make.
use Rattle.std.specs.Prelude.{List, if◌then◌else◌, ℕ}
use Rattle.site_vector.specs.declared.ids.PartId.{PartId}
use Rattle.site_vector.specs.Ids.{same_part}
use Rattle.crdt_core.specs.KindsOf.{Kinds}
use Rattle.world_model.specs.rules.Partition.{PartState}
use Rattle.world_model.specs.threads.Marks.{Mark}
use Rattle.world_model.specs.threads.AreTraces.{AreTraces}
use Rattle.world_model.specs.threads.Views.{IsPart}
use Rattle.world_model.specs.threads.Steps.{IsStep, caller_with, with_step}

-- what a pass has seen of traces are traces, and traces with a step that its caller may make are
abbrev pub LawGrows : (S E : Type 0) → Type 0
LawGrows S E = (kinds : Kinds S E) (sites parts : ℕ) (traces view : PartId → List (Mark E)) (state : PartId → PartState E) (a : AreTraces kinds sites parts traces state) →
    (IsPart view traces → (old : PartId → PartState E) × AreTraces kinds sites parts view old)
    × ((m : Mark E) (later : PartState E) → IsStep kinds sites parts traces view state (caller_with m a.caller) m later → AreTraces kinds sites parts (with_step m traces) (λ q. if same_part m.at q then later else state q))
