use Rattle.std.proofs.Common.{reverse, drop}
use Rattle.std.specs.HashSet.{contains}
use Rattle.site_vector.specs.Ids.{same_tx}
use Rattle.log_recovery.proofs.Keeping.{IsKeeping}
use Rattle.log_recovery.proofs.condenser.keep.Given as goal

abbrev pub invariant-loop-next : goal.invariant-loop-next
invariant-loop-next g l = IsKeeping (contains same_tx l.dropped) (reverse l.records) (drop l.next-index l.records) l.left l.all
