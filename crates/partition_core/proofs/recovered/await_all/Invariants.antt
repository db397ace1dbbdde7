use Rattle.partition_core.proofs.Recovering.{IsFilling}
use Rattle.partition_core.proofs.recovered.await_all.Given as goal

abbrev pub invariant-loop-entry : goal.invariant-loop-entry
invariant-loop-entry g l = IsFilling l.fn.entries l.entry-iterator.rest.items l.prepared.entries l.promised l.prepared.room
