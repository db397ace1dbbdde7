use Rattle.std.proofs.Common.{◌-◌, length, drop}
use Rattle.crdt_core.specs.Orders.{Precede}
use Rattle.prepared_table.specs.Entries.{entry_cmp}
use Rattle.prepared_table.proofs.placing.place.Given as goal

abbrev pub invariant-loop-passed : goal.invariant-loop-passed
invariant-loop-passed g l = Precede entry_cmp l.entry (drop (length l.entries - l.passed) l.entries)
