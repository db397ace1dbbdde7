use Rattle.std.proofs.Common.{◌≡◌, ◌++◌}
use Rattle.std.specs.Map.{keys_of}
use Rattle.crdt_counters.proofs.summed.dots_in.Given as goal

abbrev pub invariant-loop-dot : goal.invariant-loop-dot
invariant-loop-dot l = l.dots ++ l.dot-iterator ≡ keys_of l.amounts.entries
