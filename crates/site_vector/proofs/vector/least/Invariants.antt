use Rattle.std.proofs.Common.{◌≡◌, length, take}
use Rattle.site_vector.specs.Vector.{meet}
use Rattle.site_vector.proofs.vector.least.Given as goal

abbrev pub invariant-loop-i : goal.invariant-loop-i
invariant-loop-i l = record {
  whole : length l.met ≡ 8;
  taken : take l.i l.met ≡ meet (take l.i l.u) (take l.i l.v);
}
