-- What an answer is to a client: it goes on, asks again, or stops.
use Rattle.client_pool.specs.declared.outcome.Outcome.{Outcome}
use Rattle.client_pool.specs.declared.outcome.Outcome.TheVariants.{Done, Again, Stopped}
use Rattle.world_model.specs.declared.step.Step.{Step}
use Rattle.world_model.specs.declared.step.Step.TheVariants as step

-- a wait, or want of time or room: it is asked again; a refusal for good, or a fault
abbrev pub outcome_of : Step → Outcome
outcome_of (step.WaitClock p n) = Again
outcome_of (step.WaitTxn p t n) = Again
outcome_of (step.WaitStable j n) = Again
outcome_of step.TimeEnd = Again
outcome_of (step.Full room) = Again
outcome_of (step.Down p) = Stopped
outcome_of (step.Disk p) = Stopped
outcome_of (step.Unsure t) = Stopped
outcome_of (step.Gone p t) = Stopped
outcome_of (step.Dup number have) = Stopped
outcome_of (step.Gap number have) = Stopped
outcome_of step.BadOp = Stopped
outcome_of (step.Damaged p at) = Stopped
outcome_of other = Done
