use Rattle.std.proofs.Common.{ap, ◌∙◌}
use Rattle.std.specs.HashMap.{get}
use Rattle.std.specs.HashSet.{contains}
use Rattle.site_vector.specs.Ids.{same_tx}
use Rattle.log_recovery.specs.Fates.{fate_with}
use Rattle.log_recovery.proofs.FateSteps.{votes_more}
use Rattle.log_recovery.proofs.named.Named.wait.Goals as goal

pub returns : goal.returns
returns c = λ u. ap (λ o. fate_with o (contains same_tx c.args.self.now.ended u)) (c.in_ok-insert.ensures.updates.0 u) ∙ votes_more (same_tx c.args.tx u) c.args.vote (get same_tx c.args.self.now.votes u) (contains same_tx c.args.self.now.ended u)
