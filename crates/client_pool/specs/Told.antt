-- What a call came to, to a client.
use Rattle.std.specs.Prelude.{Result, Ok, Err}
use Rattle.world_model.specs.declared.step.Step.{Step}
use Rattle.client_pool.specs.declared.outcome.Outcome.{Outcome}
use Rattle.client_pool.specs.declared.outcome.Outcome.TheVariants as outcome
use Rattle.client_pool.specs.declared.outcome.Reply.{Reply}
use Rattle.client_pool.specs.declared.outcome.Reply.TheVariants.{Done, Again, Stopped, NoMemory}
use Rattle.world_model.specs.declared.commit.Next.{Next}
use Rattle.client_pool.specs.declared.outcome.Progress.{Progress}
use Rattle.client_pool.specs.declared.outcome.Progress.TheVariants as progress
use Rattle.client_pool.specs.Outcomes.{outcome_of}

abbrev pub told_as : Outcome → Step → Reply
told_as outcome.Done line = Done line
told_as outcome.Again line = Again
told_as outcome.Stopped line = Stopped

-- each error is taken for want of memory
abbrev pub told_of : {X : Type 0} → Result Step X → Reply
told_of (Ok line) = told_as (outcome_of line) line
told_of (Err e) = NoMemory

abbrev pub progress_as : Outcome → Progress
progress_as outcome.Done = progress.On
progress_as outcome.Again = progress.On
progress_as outcome.Stopped = progress.Stopped

-- of a step of a commit
abbrev pub progress_of : {X : Type 0} → Result (Step × Next) X → Progress
progress_of (Ok r) = progress_as (outcome_of r.0)
progress_of (Err e) = progress.NoMemory
