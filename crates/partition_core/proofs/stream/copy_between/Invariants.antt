use Rattle.std.proofs.Common.{◌≡◌, ◌++◌}
use Rattle.crdt_core.specs.Orders.{sorted_by, stream_cmp}
use Rattle.crdt_core.specs.Parts.{parts_between}
use Rattle.partition_core.proofs.stream.copy_between.Given as goal

abbrev pub invariant-loop-part : goal.invariant-loop-part
invariant-loop-part g l = l.all ++ l.part-iterator ≡ sorted_by (stream_cmp l.site) (parts_between l.site l.lo l.hi l.store.parts)
