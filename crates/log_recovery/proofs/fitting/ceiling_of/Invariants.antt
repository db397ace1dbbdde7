use Rattle.std.proofs.Common.{◌≡◌, reverse, take}
use Rattle.crdt_core.specs.Log.{ceiling}
use Rattle.log_recovery.proofs.fitting.ceiling_of.Given as goal

abbrev pub invariant-loop-record : goal.invariant-loop-record
invariant-loop-record g l = l.top ≡ ceiling (reverse (take l.record-index l.records))
