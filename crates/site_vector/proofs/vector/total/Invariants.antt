use Rattle.std.proofs.Common.{◌≡◌, ◌≤◌, ◌*◌, ◌^◌, take}
use Rattle.site_vector.specs.Vector.{sum}
use Rattle.site_vector.proofs.vector.total.Given as goal

abbrev pub invariant-loop-n : goal.invariant-loop-n
invariant-loop-n l = record {
  so_far : l.sum ≡ sum (take l.n-index l.v);
  bound : l.sum ≤ l.n-index * 2 ^ 64;
}
