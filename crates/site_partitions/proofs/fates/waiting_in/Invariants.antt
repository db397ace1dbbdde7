use Rattle.std.proofs.Common.{◌≡◌, ◌++◌, drop, map}
use Rattle.site_partitions.specs.Fates.{waiting_of}
use Rattle.site_partitions.proofs.fates.waiting_in.Given as goal

abbrev pub invariant-loop-entry : goal.invariant-loop-entry
invariant-loop-entry g l = l.all.items ++ map waiting_of (drop l.entry-index l.entries) ≡ map waiting_of l.entries
