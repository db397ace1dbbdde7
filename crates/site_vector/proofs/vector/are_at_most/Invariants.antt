use Rattle.std.proofs.Common.{◌≡◌, drop}
use Rattle.site_vector.specs.Vector.{le}
use Rattle.site_vector.proofs.vector.are_at_most.Given as goal

abbrev pub invariant-loop-i : goal.invariant-loop-i
invariant-loop-i l = le (drop l.i l.u) (drop l.i l.v) ≡ le l.u l.v
