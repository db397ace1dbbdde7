use Rattle.stable_gossip.proofs.Least.{more_least}
use Rattle.stable_gossip.proofs.matrix.least_of.Goals as goal

pub loop-part-preserved : goal.loop-part-preserved
loop-part-preserved c = more_least _ _ _ _ _ _ _ c.loop-part.auto.part c.loop-part.invariant c.known.ensures.width c.known.ensures.entries c.meet-least.ensures
