-- The fields of a session.
use Rattle.std.specs.Prelude.{◌≡◌, ◌≤◌, ℕ, List, length}
use Rattle.clocksi_commit.specs.Commit.{Committing}
use Rattle.txn_session.specs.declared.session.Stage.{Stage}
use Rattle.txn_session.specs.declared.session.Stage.TheVariants as stage
use Rattle.txn_session.specs.Session.{Txn, Doing, Idle, Open, Ending}

abbrev pub doing_in : {E : Type 0} → Stage → Txn E → ℕ → Committing → Doing E
doing_in stage.Idle txn lead commit = Idle
doing_in stage.Open txn lead commit = Open txn
doing_in stage.Ending txn lead commit = Ending txn lead commit

-- a site of the cluster, whose numbers are within their bounds
pub record IsSized (site sites parts : ℕ) (dependency snapshot : List ℕ) : Type 0 where
  pub least_site : 1 ≤ site
  pub most_site : site ≤ sites
  pub most_sites : sites ≤ 8
  pub least_parts : 1 ≤ parts
  pub most_parts : parts ≤ 16
  pub width : length dependency ≡ sites
  pub entries : length snapshot ≡ sites
