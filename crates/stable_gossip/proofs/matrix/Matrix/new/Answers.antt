use Rattle.std.proofs.Common.{ap}
use Rattle.stable_gossip.proofs.Heard.{blank, laid_out_blank, is_gossip}
use Rattle.stable_gossip.proofs.matrix.Matrix.new.Goals as goal

pub returns-clause-value : goal.returns-clause-value
returns-clause-value c = ap (λ l. record { sites = c.args.sites; parts = c.args.parts; heard = l }) (blank c.args.parts _ _ c.requires.most_parts c.zero.ensures)

pub returns-clause-sound : goal.returns-clause-sound
returns-clause-sound c = is_gossip _ _ _ (laid_out_blank _ _ _ c.requires.some_site c.requires.most_sites c.requires.some_part c.requires.most_parts c.zero.ensures)
