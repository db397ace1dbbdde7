use Rattle.std.proofs.Common.{◌≡◌, drop}
use Rattle.log_recovery.specs.Lists.{least_below}
use Rattle.log_recovery.proofs.recovery.own_bound.Given as goal

abbrev pub invariant-loop-entry : goal.invariant-loop-entry
invariant-loop-entry g l = least_below l.bound (drop l.entry-index l.pending) ≡ least_below l.now l.pending
