-- What contracts tell of a partition's log.
use Rattle.std.specs.Prelude.{ℕ, List, [], ◌∷◌, Option, Some, None}
use Rattle.gate_log.specs.declared.log.GateLog.{GateLog}
use Rattle.crdt_core.specs.declared.record.Record.{Record}
use Rattle.crdt_core.specs.declared.record.Record.TheVariants.{Lease}
use Rattle.partition_log.specs.declared.log.PartLog.{PartLog}

-- the log of byte strings under it
abbrev pub gates_of : {C D S E : Type 0} → PartLog C D S E → GateLog D
gates_of log = log.log

-- the Lease that a ceiling asks for
abbrev pub leases : {E : Type 0} → Option ℕ → List (Record E)
leases None = []
leases (Some ceil) = Lease ceil ∷ []
