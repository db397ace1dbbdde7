use Rattle.std.proofs.Common.{◌≡◌, ◌++◌}
use Rattle.log_recovery.proofs.ledger.append.Given as goal

abbrev pub invariant-loop-part : goal.invariant-loop-part
invariant-loop-part g l = l.all ++ l.part-iterator.rest.items ≡ l.fn.all ++ l.fn.more
