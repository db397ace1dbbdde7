-- A commit as contracts see it.
use Rattle.std.specs.Prelude.{ℕ, Bool, true, false, List}
use Rattle.world_model.specs.commands.CommitSteps.{Going, Preparing, Finishing, Aborting}
use Rattle.clocksi_commit.specs.declared.commit.Stage.{Stage}
use Rattle.clocksi_commit.specs.declared.commit.Stage.TheVariants.{Prepares, Finishes, Aborts}

-- the transaction's site and snapshot, and how far the commit has come
pub record Committing : Type 0 where
  pub site : ℕ
  pub s : List ℕ
  pub going : Going

-- who was asked, who is left to ask, and the greatest vote or the commit time
abbrev pub going_of : Stage → List ℕ → List ℕ → ℕ → Going
going_of Prepares done left n = Preparing done left n
going_of Finishes done left n = Finishing left n
going_of Aborts done left n = Aborting left

abbrev pub is_finishing : Going → Bool
is_finishing (Finishing left n) = true
is_finishing other = false
