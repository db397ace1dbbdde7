-- A cluster with its sessions, as contracts see it.
use Rattle.std.specs.Prelude.{◌≡◌, ℕ, Bool, true, false, List, length, Option, None, Some, if◌then◌else◌, ◌==◌}
use Rattle.std.specs.Map.{lookup}
use Rattle.std.specs.Str.{bytes_eq}
use Rattle.site_vector.specs.declared.ids.PartId.{PartId}
use Rattle.world_model.specs.declared.step.Step.{Step}
use Rattle.world_model.specs.declared.step.Step.TheVariants as step
use Rattle.txn_session.specs.declared.error.SessionError.{SessionError}
use Rattle.txn_session.specs.declared.error.SessionError.TheVariants as error
use Rattle.txn_session.specs.declared.phase.Phase.{Phase}
use Rattle.txn_session.specs.declared.phase.Phase.TheVariants as phase
use Rattle.txn_session.specs.Session.{SessionState, phase_of}
use Rattle.site_partitions.specs.Held.{Held}

pub record LiveState (E D : Type 0) : Type 0 where
  pub sites : Held E D
  -- by their names
  pub sessions : List (List ℕ × SessionState E)

-- the session of this name
abbrev pub session_in : {E : Type 0} → List (List ℕ × SessionState E) → List ℕ → Option (SessionState E)
session_in sessions who = lookup (bytes_eq who) sessions

-- what the session of this name is about
abbrev pub phase_about : {E : Type 0} → Option (SessionState E) → Option Phase
phase_about None = None
phase_about (Some s) = Some (phase_of s.doing)

abbrev pub phase_in : {E : Type 0} → List (List ℕ × SessionState E) → List ℕ → Option Phase
phase_in sessions name = phase_about (session_in sessions name)

abbrev pub is_open_phase : Phase → Bool
is_open_phase phase.Open = true
is_open_phase other = false

abbrev pub is_idle_phase : Phase → Bool
is_idle_phase phase.Idle = true
is_idle_phase other = false

abbrev pub are_idle : Option Phase → Bool
are_idle None = false
are_idle (Some p) = is_idle_phase p

-- the partition, if one is named, is of the session's site
abbrev pub is_of_site : {E : Type 0} → Option (SessionState E) → PartId → Bool
is_of_site None p = false
is_of_site (Some s) p = s.site == p.site

abbrev pub may_begin_at : {E : Type 0} → Option (SessionState E) → Option PartId → Bool
may_begin_at s None = true
may_begin_at s (Some p) = is_of_site s p

abbrev pub is_of_own_site : {E : Type 0} → List (List ℕ × SessionState E) → List ℕ → Option PartId → Bool
is_of_own_site sessions name part = may_begin_at (session_in sessions name) part

abbrev pub number_of : Option PartId → ℕ
number_of None = 1
number_of (Some p) = p.part

-- the line of an update that is refused before any partition is asked
abbrev pub refused_line : SessionError → Step
refused_line error.NoTxn = step.NoTxn
refused_line error.TooMany = step.LimitUpdates
refused_line other = step.BadOp

-- this session alone is changed
pub record IsPut {E : Type 0} (old : List (List ℕ × SessionState E)) (name : List ℕ) (s : SessionState E) (new : List (List ℕ × SessionState E)) : Type 0 where
  pub find : (who : List ℕ) → session_in new who ≡ (if bytes_eq name who then Some s else session_in old who)
  pub count : length new ≡ length old
