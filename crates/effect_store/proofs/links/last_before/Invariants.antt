use Rattle.std.proofs.Common.{length}
use Rattle.effect_store.specs.Chains.{chain}
use Rattle.effect_store.specs.Spots.{tag_of, later, spots_to}
use Rattle.effect_store.specs.Links.{spot}
use Rattle.effect_store.proofs.Walking.{IsWalk}
use Rattle.effect_store.proofs.links.last_before.Given as goal

abbrev pub invariant-loop-k : goal.invariant-loop-k
invariant-loop-k g l = IsWalk tag_of later (spots_to l.parts l.place l.at) (spot l.part l.at l.update) l.k

abbrev pub decreases-loop-k : goal.decreases-loop-k
decreases-loop-k g l = length (chain tag_of later (spots_to l.parts l.place l.at) l.k)
