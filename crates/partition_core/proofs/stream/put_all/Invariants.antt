use Rattle.std.proofs.Common.{vec_len}
use Rattle.partition_core.proofs.Putting.{IsPutting}
use Rattle.partition_core.proofs.stream.put_all.Given as goal

abbrev pub invariant-loop-part : goal.invariant-loop-part
invariant-loop-part g l = IsPutting l.fn.parts.items l.fn.store l.left.items l.store

abbrev pub decreases-loop-part : goal.decreases-loop-part
decreases-loop-part g l = vec_len l.left
