use Rattle.std.proofs.Common.{◌≡◌}
use Rattle.crdt_registers.proofs.texts.list_of.Given as goal

abbrev pub invariant-loop-text : goal.invariant-loop-text
invariant-loop-text l = l.list ≡ l.yielded
