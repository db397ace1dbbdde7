use Rattle.std.proofs.Common.{length}
use Rattle.effect_store.specs.Chains.{chain}
use Rattle.effect_store.specs.Spots.{tag_of, before, spots}
use Rattle.effect_store.proofs.newest.shown_from.Given as goal

abbrev pub decreases-loop-at : goal.decreases-loop-at
decreases-loop-at g l = length (chain tag_of before (spots l.parts) l.at)
