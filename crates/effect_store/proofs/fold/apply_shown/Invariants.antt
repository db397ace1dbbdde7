use Rattle.std.proofs.Common.{◌≡◌, length}
use Rattle.effect_store.specs.Chains.{chain}
use Rattle.effect_store.specs.Spots.{tag_of, before, spots}
use Rattle.effect_store.specs.Applied.{applied, shown}
use Rattle.effect_store.proofs.fold.apply_shown.Given as goal

abbrev pub invariant-loop-at : goal.invariant-loop-at
invariant-loop-at g l = applied g.C.Crdt.applied l.state (shown l.object l.snapshot l.parts l.at) ≡ applied g.C.Crdt.applied l.fn.state (shown l.object l.snapshot l.parts l.fn.from)

abbrev pub decreases-loop-at : goal.decreases-loop-at
decreases-loop-at g l = length (chain tag_of before (spots l.parts) l.at)
