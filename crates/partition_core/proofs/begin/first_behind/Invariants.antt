use Rattle.std.proofs.Common.{length}
use Rattle.partition_core.specs.Bounds.{AreEnough}
use Rattle.partition_core.proofs.begin.first_behind.Given as goal

abbrev pub invariant-loop-i : goal.invariant-loop-i
invariant-loop-i l = AreEnough (length l.stable) l.own l.stable l.dependency l.i
