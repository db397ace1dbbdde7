-- Runs under a plan, and what proofs tell of their votes and messages.
use Rattle.std.specs.Prelude.{◌≡◌, ℕ, Bool, true, false, if◌then◌else◌, List, [], ◌∷◌, ⊤, max, ◌&&◌}
use Rattle.site_vector.specs.declared.ids.PartId.{PartId}
use Rattle.site_vector.specs.declared.ids.TxId.{TxId}
use Rattle.site_vector.specs.Ids.{same_part}
use Rattle.site_vector.specs.Vector.{entry}
use Rattle.world_model.specs.rules.Event.{Event, Began, Sent, Reported, Entry, time_shown, is_prepare}
use Rattle.crdt_core.specs.KindsOf.{Kinds}
use Rattle.world_model.specs.rules.Partition.{PartState, new_part}
use Rattle.world_model.specs.rules.Plan.{WorldStep, Plan}

-- a begin whose snapshot is to be stable tells its own entry
abbrev pub begin_told : Bool → ℕ → ℕ → ℕ
begin_told true n old = max n old
begin_told false n old = old

module _ {E : Type 0} where
  -- the time of p's vote for t
  abbrev pub vote : List (Entry E) → TxId → PartId → ℕ
  vote [] t p = 0
  vote (e ∷ run) t p = if same_part e.at p && is_prepare e.event t then time_shown e.event else vote run t p

  -- the greatest own bound that p told: the end of a message, or the own entry of a report or of a stable snapshot
  abbrev pub sent_after : ℕ → ℕ → Event E → ℕ
  sent_after site old (Sent asked m) = max m.hi old
  sent_after site old (Began who wish t s) = begin_told wish.stable (entry s site) old
  sent_after site old (Reported b) = max (entry b site) old
  sent_after site old other = old

  abbrev pub sent : List (Entry E) → PartId → ℕ
  sent [] p = 0
  sent (e ∷ run) p = if same_part e.at p then sent_after p.site (sent run p) e.event else sent run p

  -- what the plan says of a transaction that began, and of its updates
  abbrev pub IsPlanned : Plan E → PartId → Event E → Type 0
  IsPlanned plan at (Began who dep t s) = s ≡ plan.snapshot t
  IsPlanned plan at other = ⊤

  -- a run under a plan, and where it leaves each partition
  abbrev pub IsRun : {S : Type 0} → Kinds S E → Plan E → List (Entry E) → (PartId → PartState E) → Type 0
  IsRun kinds plan [] parts = (p : PartId) → parts p ≡ new_part plan.sites plan.parts
  IsRun kinds plan (e ∷ run) parts = (before : PartId → PartState E) × IsRun kinds plan run before × WorldStep kinds plan run before e parts × IsPlanned plan e.at e.event
