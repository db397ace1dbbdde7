use Rattle.partition_core.specs.Bounds.{AllEnough}
use Rattle.partition_core.proofs.begin.first_exceeded.Given as goal

abbrev pub invariant-loop-i : goal.invariant-loop-i
invariant-loop-i l = AllEnough l.stable l.dependency l.i
