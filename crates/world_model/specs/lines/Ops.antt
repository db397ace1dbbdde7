-- Operations, over the lines of a run: a partition is handed none that isn't one of the kind.
use Rattle.std.specs.Prelude.{◌≡◌, Bool, true, List, ⊤}
use Rattle.site_vector.specs.declared.ids.PartId.{PartId}
use Rattle.crdt_core.specs.declared.kind.Kind.{Kind}
use Rattle.crdt_core.specs.declared.object.Field.{Field}
use Rattle.world_model.specs.declared.step.Step.{Step}
use Rattle.crdt_core.specs.KindsOf.{fits_kind}
use Rattle.world_model.specs.lines.Lines.{Call, UpdateOf, Line}

-- whatever answers it, an update's operation is one of the kind: a session refuses any other before it asks a partition
abbrev pub HasOp : (Kind → List Field → Bool) → List Line → PartId → Call → Step → Type 0
HasOp too_deep before p (UpdateOf t o op) step = fits_kind too_deep o op ≡ true
HasOp too_deep before p call other = ⊤
