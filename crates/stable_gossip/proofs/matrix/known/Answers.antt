use Rattle.std.proofs.Common.{arith}
use Rattle.stable_gossip.proofs.Heard.{width_at}
use Rattle.stable_gossip.proofs.matrix.known.Goals as goal

pub returns-clause-width : goal.returns-clause-width
returns-clause-width c = width_at _ _ _ _ c.requires.wide (omega arith) c.index-heard-part.is
