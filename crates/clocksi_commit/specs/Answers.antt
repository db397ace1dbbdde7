-- What the answers to the steps of a commit say.
use Rattle.std.specs.Prelude.{Bool, true, false}
use Rattle.world_model.specs.declared.step.Step.{Step}
use Rattle.world_model.specs.declared.step.Step.TheVariants as step
use Rattle.clocksi_commit.specs.declared.commit.Vote.{Vote}
use Rattle.clocksi_commit.specs.declared.commit.Vote.TheVariants as vote
use Rattle.clocksi_commit.specs.declared.commit.Decision.{Decision}
use Rattle.clocksi_commit.specs.declared.commit.Decision.TheVariants as decision

abbrev pub vote_of : Step → Vote
vote_of (step.Prepared p t n) = vote.Given n
vote_of (step.Down p) = vote.Refused
vote_of (step.Disk p) = vote.Refused
vote_of other = vote.Waits

abbrev pub decision_of : Step → Decision
decision_of (step.Decided p t c) = decision.Made
decision_of (step.Gone p t) = decision.Unknown
decision_of (step.Unsure t) = decision.InDoubt
decision_of other = decision.Waits

abbrev pub ends_finish : Step → Bool
ends_finish (step.Finished p t) = true
ends_finish (step.Gone p t) = true
ends_finish other = false
