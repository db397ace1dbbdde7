use Rattle.std.proofs.Common.{◌≡◌, ◌≤◌, ◌+◌, drop}
use Rattle.log_recovery.specs.Condensed.{leases_in}
use Rattle.log_recovery.proofs.condenser.count_leases.Given as goal

abbrev pub invariant-loop-next : goal.invariant-loop-next
invariant-loop-next g l = (l.count + leases_in (drop l.next-index l.records) ≡ leases_in l.records) × (l.count ≤ l.next-index)
