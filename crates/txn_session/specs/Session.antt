-- A session as contracts see it.
use Rattle.std.specs.Prelude.{ℕ, zero, suc, ◌+◌, Bool, true, false, not, ◌==◌, List, [], ◌∷◌, filter}
use Rattle.site_vector.specs.declared.ids.PartId.{PartId}
use Rattle.site_vector.specs.declared.ids.TxId.{TxId}
use Rattle.crdt_core.specs.declared.object.ObjectId.{ObjectId}
use Rattle.crdt_core.specs.declared.record.Upd.{Upd}
use Rattle.crdt_core.specs.Objects.{same_object}
use Rattle.crdt_core.specs.Placing.{place_of}
use Rattle.world_model.specs.declared.step.Step.{Step}
use Rattle.world_model.specs.rules.Plan.{is_some_update}
use Rattle.world_model.specs.commands.CommitSteps.{Going, Finishing, starting, given_up, is_done, after}
use Rattle.clocksi_commit.specs.Commit.{Committing, is_finishing}
use Rattle.txn_session.specs.declared.phase.Phase.{Phase}
use Rattle.txn_session.specs.declared.phase.Phase.TheVariants as phase

-- a transaction: its id, its snapshot, the number of its caller, and its updates in order
pub record Txn (E : Type 0) : Type 0 where
  pub tx : TxId
  pub s : List ℕ
  pub by : ℕ
  pub updates : List (Upd E)

-- what a session is about; `lead` is the number of the first participant
pub data Doing (E : Type 0) : Type 0 where
  Idle : Doing E
  Open : (txn : Txn E) → Doing E
  Ending : (txn : Txn E) (lead : ℕ) (commit : Committing) → Doing E

pub record SessionState (E : Type 0) : Type 0 where
  pub name : List ℕ
  pub site : ℕ
  -- of the cluster
  pub sites : ℕ
  pub parts : ℕ
  pub dependency : List ℕ
  pub doing : Doing E

abbrev pub phase_in : Going → Phase
phase_in (Finishing left n) = phase.Finishing
phase_in other = phase.Committing

abbrev pub phase_of : {E : Type 0} → Doing E → Phase
phase_of Idle = phase.Idle
phase_of (Open txn) = phase.Open
phase_of (Ending txn lead commit) = phase_in commit.going

abbrev pub is_idle : {E : Type 0} → Doing E → Bool
is_idle Idle = true
is_idle other = false

abbrev pub is_open : {E : Type 0} → Doing E → Bool
is_open (Open txn) = true
is_open other = false

abbrev pub numbers_from : ℕ → ℕ → List ℕ
numbers_from first zero = []
numbers_from first (suc n) = first ∷ numbers_from (first + 1) n

abbrev pub first_or_zero : List ℕ → ℕ
first_or_zero [] = 0
first_or_zero (p ∷ ps) = p

abbrev pub committed_so : Committing → Going → Committing
committed_so c g = record { site = c.site; s = c.s; going = g }

-- there is a transaction that isn't decided
abbrev pub can_abort : {E : Type 0} → Doing E → Bool
can_abort Idle = false
can_abort (Open txn) = true
can_abort (Ending txn lead commit) = not (is_finishing commit.going)

-- a step of its end is left
abbrev pub has_step : {E : Type 0} → Doing E → Bool
has_step (Ending txn lead commit) = not (is_done commit.going)
has_step other = false

-- it goes on at another site
abbrev pub moved_to : {E : Type 0} → SessionState E → ℕ → SessionState E
moved_to s site = record { name = s.name; site = site; sites = s.sites; parts = s.parts; dependency = s.dependency; doing = s.doing }

module _ {E : Type 0} where
  -- the updates of the object
  abbrev pub own_updates : List (Upd E) → ObjectId → List (Upd E)
  own_updates updates o = filter (λ u. same_object u.object o) updates

  abbrev pub is_placed_at : ℕ → ℕ → Upd E → Bool
  is_placed_at parts p u = place_of u.object.bucket u.object.key parts == p

  -- the updates at the partition with this number
  abbrev pub updates_of : ℕ → List (Upd E) → ℕ → List (Upd E)
  updates_of parts updates p = filter (is_placed_at parts p) updates

  -- the participants: the numbers of the partitions with updates, in ascending order
  abbrev pub participants : ℕ → List (Upd E) → List ℕ
  participants parts updates = filter (λ p. is_some_update (updates_of parts updates p)) (numbers_from 1 parts)

  -- where a commit begins, if it has not
  abbrev pub ending : ℕ → ℕ → Doing E → Doing E
  ending site parts Idle = Idle
  ending site parts (Open txn) = Ending txn (first_or_zero (participants parts txn.updates)) (record { site = site; s = txn.s; going = starting (participants parts txn.updates) })
  ending site parts (Ending txn lead commit) = Ending txn lead commit

  -- it is given up
  abbrev pub giving_up : Doing E → Doing E
  giving_up Idle = Idle
  giving_up (Open txn) = Idle
  giving_up (Ending txn lead commit) = Ending txn lead (committed_so commit (given_up commit.going))

  -- after an answer to the next step of its end
  abbrev pub answered : Doing E → Step → Doing E
  answered (Ending txn lead commit) answer = Ending txn lead (committed_so commit (after commit.going answer).0)
  answered other answer = other

  abbrev pub doing_so : SessionState E → Doing E → SessionState E
  doing_so s doing = record { name = s.name; site = s.site; sites = s.sites; parts = s.parts; dependency = s.dependency; doing = doing }

  abbrev pub depends : SessionState E → List ℕ → SessionState E
  depends s dep = record { name = s.name; site = s.site; sites = s.sites; parts = s.parts; dependency = dep; doing = s.doing }

  abbrev pub place_in : SessionState E → ℕ → PartId
  place_in s p = record { site = s.site; part = p }
