use Rattle.std.proofs.Common.{◌≡◌, length, take}
use Rattle.site_vector.specs.Vector.{join}
use Rattle.site_vector.proofs.vector.greatest.Given as goal

abbrev pub invariant-loop-i : goal.invariant-loop-i
invariant-loop-i l = record {
  whole : length l.joined ≡ 8;
  taken : take l.i l.joined ≡ join (take l.i l.u) (take l.i l.v);
}
