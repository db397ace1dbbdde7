use Rattle.std.proofs.Common.{◌≡◌, ◌++◌}
use Rattle.log_recovery.specs.Lists.{still_there}
use Rattle.log_recovery.proofs.waiting.list.Given as goal

abbrev pub invariant-loop-slot : goal.invariant-loop-slot
invariant-loop-slot g l = l.all ++ still_there l.slot-iterator.rest.items ≡ still_there l.fn.slots.items
