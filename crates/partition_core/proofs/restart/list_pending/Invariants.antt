use Rattle.std.proofs.Common.{◌≡◌, ◌++◌, drop, map}
use Rattle.partition_core.proofs.restart.list_pending.Given as goal

abbrev pub invariant-loop-entry : goal.invariant-loop-entry
invariant-loop-entry g l = l.all ++ map (λ x. (x.tx, x.time)) (drop l.entry-index l.entries) ≡ map (λ x. (x.tx, x.time)) l.entries
