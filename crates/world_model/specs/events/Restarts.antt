-- What a restart lists: what was before, where a call that was cut off may have been done.
use Rattle.std.specs.Prelude.{◌≡◌, ◌⊎◌, ℕ, ◌≤◌, max, Bool, true, false, ◌&&◌, ◌==◌, if◌then◌else◌, List, [], ◌∷◌, Option, None, Some, ⊤, not}
use Rattle.site_vector.specs.declared.ids.PartId.{PartId}
use Rattle.site_vector.specs.declared.ids.TxId.{TxId}
use Rattle.site_vector.specs.Ids.{same_part}
use Rattle.site_vector.specs.Vector.{entry}
use Rattle.crdt_core.specs.declared.record.Part.{Part}
use Rattle.crdt_core.specs.declared.record.Message.{Message}
use Rattle.world_model.specs.rules.Event.{Event, Decided, Took, Crashed, RestartCut, Restarted, Refused, Opened, Cut, Entry, is_decided}
use Rattle.world_model.specs.lines.Places.{IsOther}
use Rattle.world_model.specs.lines.Listed.{names_pending, AreTimed, is_named}
use Rattle.crdt_core.specs.Parts.{above}
use Rattle.world_model.specs.rules.Plan.{Plan, MayTake}
use Rattle.world_model.specs.events.Bounds.{bound_shown}
use Rattle.world_model.specs.events.Pending.{pending_shown, pending_time, in_doubt}

module _ {E : Type 0} where
  -- no restart lists a decided transaction as pending at its lead
  abbrev pub KeepsIs : Plan E → List (Entry E) → PartId → Event E → Type 0
  KeepsIs plan run p (Restarted n b named listed) = (t : TxId) → is_decided run t ≡ true → plan.lead t ≡ p → names_pending listed t ≡ false
  KeepsIs plan run p other = ⊤

  abbrev pub KeepsDecided : Plan E → List (Entry E) → Type 0
  KeepsDecided plan [] = ⊤
  KeepsDecided plan (e ∷ run) = KeepsIs plan run e.at e.event × KeepsDecided plan run

  -- the restart either lists it as pending, or names it as decided, and not both
  abbrev pub SettlesAt : List (Entry E) → PartId → Event E → Type 0
  SettlesAt run p (Restarted n b named listed) = (t : TxId) → in_doubt run p t ≡ true → names_pending listed t ≡ not (is_named named t)
  SettlesAt run p other = ⊤

  abbrev pub SettleDoubts : List (Entry E) → Type 0
  SettleDoubts [] = ⊤
  SettleDoubts (e ∷ run) = SettlesAt run e.at e.event × SettleDoubts run

  -- a call of a partition
  abbrev pub is_call : Event E → Bool
  is_call Crashed = false
  is_call RestartCut = false
  is_call (Restarted n b named listed) = false
  is_call (Refused asked why) = false
  is_call (Opened who) = false
  is_call (Cut what) = false
  is_call other = true

  abbrev pub cut_after : Option (Event E) → Event E → Option (Event E)
  cut_after old (Cut what) = Some what
  cut_after old (Restarted n b named listed) = None
  cut_after old other = old

  -- the call that was cut off at p, which has not restarted since
  abbrev pub cut_call : List (Entry E) → PartId → Option (Event E)
  cut_call [] p = None
  cut_call (e ∷ run) p = if same_part e.at p then cut_after (cut_call run p) e.event else cut_call run p

  -- a message brings a part above the bound
  abbrev pub is_some_part : List (Part E) → Bool
  is_some_part [] = false
  is_some_part (x ∷ xs) = true

  abbrev pub brings : Message E → ℕ → Bool
  brings m b = is_some_part (above m.from b m.parts)

  -- the greatest end of a message from site j that brought a part, or what a later restart showed
  abbrev pub brought_after : List (Entry E) → PartId → ℕ → ℕ → Event E → ℕ
  brought_after run p j old (Took number m) = if m.from == j && brings m (bound_shown run p m.from) then max m.hi old else old
  brought_after run p j old (Restarted n b named listed) = entry b j
  brought_after run p j old other = old

  abbrev pub brought : List (Entry E) → PartId → ℕ → ℕ
  brought [] p j = 0
  brought (e ∷ run) p j = if same_part e.at p then brought_after run p j (brought run p j) e.event else brought run p j

  -- the last decide of p that was done, or what a later restart named
  abbrev pub decided_after : Option TxId → Event E → Option TxId
  decided_after old (Decided t c) = Some t
  decided_after old (Restarted n b named listed) = named
  decided_after old other = old

  abbrev pub last_shown : List (Entry E) → PartId → Option TxId
  last_shown [] p = None
  last_shown (e ∷ run) p = if same_part e.at p then decided_after (last_shown run p) e.event else last_shown run p

  -- a take that was cut off was of a message that was sent, and left no gap
  abbrev pub IsTakeable : Plan E → List (Entry E) → PartId → Event E → Type 0
  IsTakeable plan run p (Took number m) = MayTake plan run p number m × (m.lo ≤ bound_shown run p m.from)
  IsTakeable plan run p other = ⊤

  -- all that was pending is listed, with its time, and the bounds are those of messages that brought something
  pub record IsAsBefore (plan : Plan E) (run : List (Entry E)) (p : PartId) (b : List ℕ) (named : Option TxId) (listed : List (TxId × ℕ)) : Type 0 where
    pub members : (t : TxId) → names_pending listed t ≡ pending_shown run p t
    pub times : AreTimed (pending_time run p) listed
    pub bounds : (j : ℕ) → IsOther plan.sites p.site j → entry b j ≡ brought run p j
    pub last : named ≡ last_shown run p

  -- a restart lists what was before, or what was once the call was done that was cut off
  abbrev pub ResumesAt : Plan E → List (Entry E) → PartId → Event E → Type 0
  ResumesAt plan run p (Restarted n b named listed) = IsAsBefore plan run p b named listed ⊎ ((what : Event E) × (cut_call run p ≡ Some what) × (is_call what ≡ true) × IsTakeable plan run p what × IsAsBefore plan ((record { at = p; event = what }) ∷ run) p b named listed)
  ResumesAt plan run p other = ⊤

  abbrev pub Resume : Plan E → List (Entry E) → Type 0
  Resume plan [] = ⊤
  Resume plan (e ∷ run) = ResumesAt plan run e.at e.event × Resume plan run
