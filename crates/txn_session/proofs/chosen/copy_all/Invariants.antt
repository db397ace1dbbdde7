use Rattle.std.proofs.Common.{◌≡◌, ◌++◌, drop}
use Rattle.txn_session.proofs.chosen.copy_all.Given as goal

abbrev pub invariant-loop-update : goal.invariant-loop-update
invariant-loop-update g l = l.copies.items ++ drop l.update-index l.updates ≡ l.updates
