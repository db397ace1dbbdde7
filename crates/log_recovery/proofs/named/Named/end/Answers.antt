use Rattle.std.proofs.Common.{true, cond, ap, ◌∙◌}
use Rattle.std.specs.HashMap.{get}
use Rattle.std.specs.HashSet.{contains}
use Rattle.site_vector.specs.Ids.{same_tx}
use Rattle.log_recovery.specs.Fates.{fate_with}
use Rattle.log_recovery.proofs.FateSteps.{ends_more}
use Rattle.log_recovery.proofs.named.Named.end.Goals as goal

pub returns : goal.returns
returns c = λ u. ap (λ n. fate_with (get same_tx c.remove-vote.new.self u) n) (c.in_ok-insert.ensures.updates.0 u) ∙ ap (λ o. fate_with o (cond (same_tx c.args.tx u) true (contains same_tx c.args.self.now.ended u))) (c.remove-vote.ensures.updates.0 u)
    ∙ ends_more (same_tx c.args.tx u) (get same_tx c.args.self.now.votes u) (contains same_tx c.args.self.now.ended u)
