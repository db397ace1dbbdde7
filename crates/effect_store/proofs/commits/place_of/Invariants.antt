use Rattle.std.proofs.Common.{◌≤◌, length, drop}
use Rattle.effect_store.specs.Arranged.{Each}
use Rattle.effect_store.specs.Commits.{sooner, at_places}
use Rattle.effect_store.proofs.commits.place_of.Given as goal

abbrev pub invariant-loop-at : goal.invariant-loop-at
invariant-loop-at g l = (l.at ≤ length l.list) × Each (sooner l.site l.part) (drop l.at (at_places l.parts l.list))

abbrev pub decreases-loop-at : goal.decreases-loop-at
decreases-loop-at g l = l.at
