use Rattle.std.proofs.Common.{reverse, drop}
use Rattle.crdt_core.specs.Log.{ceiling}
use Rattle.log_recovery.proofs.Seeing.{IsSeeing}
use Rattle.log_recovery.proofs.fitting.unfit.Given as goal

abbrev pub invariant-loop-number : goal.invariant-loop-number
invariant-loop-number g l = IsSeeing l.sites l.parts l.fn.id (ceiling (reverse l.records)) (reverse l.records) l.number (drop l.number l.records) l.seen
