-- Leases that rise, as those of a partition do.
use Rattle.std.specs.Prelude.{◌≤◌, List, [], ◌∷◌, ⊤}
use Rattle.crdt_core.specs.declared.record.Record.{Record}
use Rattle.crdt_core.specs.declared.record.Record.TheVariants.{Lease, Prepare, Decide, Finish, Abort, Batch}
use Rattle.crdt_core.specs.Log.{ceiling}

-- no lease has a lower ceiling than the one before it
abbrev pub Rises : {E : Type 0} → List (Record E) → Type 0
Rises [] = ⊤
Rises (Lease n ∷ log) = (ceiling log ≤ n) × Rises log
Rises (Prepare t l n s w ∷ log) = Rises log
Rises (Decide t c ∷ log) = Rises log
Rises (Finish t c ∷ log) = Rises log
Rises (Abort t ∷ log) = Rises log
Rises (Batch m ∷ log) = Rises log
