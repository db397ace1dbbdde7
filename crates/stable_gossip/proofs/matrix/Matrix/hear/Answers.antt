use Rattle.stable_gossip.proofs.Heard.{join_width, laid_out_set, heard_set, is_gossip}
use Rattle.stable_gossip.proofs.matrix.Matrix.hear.Goals as goal

pub join-requires : goal.join-requires
join-requires c = join_width _ _ _ _ _ _ _ c.self.view_is c.self.invariant c.requires.least c.requires.most c.requires.width

pub invariant_of-self : goal.invariant_of-self
invariant_of-self c = laid_out_set _ _ _ _ _ _ _ _ c.self.view_is c.self.invariant c.requires.least c.requires.most c.join.ensures c.requires.width

pub returns-clause-heard : goal.returns-clause-heard
returns-clause-heard c = heard_set _ _ _ _ _ _ _ _ c.self.view_is c.self.invariant c.requires.least c.requires.most c.join.ensures

pub returns-clause-sound : goal.returns-clause-sound
returns-clause-sound c = is_gossip _ _ _ (laid_out_set _ _ _ _ _ _ _ _ c.self.view_is c.self.invariant c.requires.least c.requires.most c.join.ensures c.requires.width)
