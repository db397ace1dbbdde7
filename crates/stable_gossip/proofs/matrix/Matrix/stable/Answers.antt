use Rattle.stable_gossip.proofs.Heard.{seen, seen_wide}
use Rattle.stable_gossip.proofs.matrix.Matrix.stable.Goals as goal

pub least_of-requires-clause-wide : goal.least_of-requires-clause-wide
least_of-requires-clause-wide c = seen_wide _ _ _ _ _ c.self.view_is c.self.invariant c.requires

pub returns-clause-sound : goal.returns-clause-sound
returns-clause-sound c = seen _ _ _ _ c.self.view_is c.self.invariant
