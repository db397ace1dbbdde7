use Rattle.effect_store.proofs.Linking.{IsGoing}
use Rattle.effect_store.proofs.links.link_part.Given as goal

abbrev pub invariant-loop-at : goal.invariant-loop-at
invariant-loop-at g l = IsGoing l.parts l.fn.links l.links l.place l.count l.at
