use Rattle.std.proofs.Common.{◌≤◌, ◌-◌, length, take, drop, leb, ltb}
use Rattle.site_vector.specs.Vector.{entry}
use Rattle.effect_store.specs.Arranged.{Each}
use Rattle.effect_store.specs.Commits.{at_places}
use Rattle.effect_store.proofs.commits.count_up_to.Given as goal

abbrev pub invariant-loop-low : goal.invariant-loop-low
invariant-loop-low g l = (l.low ≤ l.high) × (l.high ≤ length l.list) × Each (λ q. leb (entry q.c l.site) l.bound) (take l.low (at_places l.parts l.list)) × Each (λ q. ltb l.bound (entry q.c l.site)) (drop l.high (at_places l.parts l.list))

abbrev pub decreases-loop-low : goal.decreases-loop-low
decreases-loop-low g l = l.high - l.low
