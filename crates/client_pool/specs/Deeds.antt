-- What the callers of partitions do, and which calls stand between.
use Rattle.std.specs.Prelude.{◌≡◌, ◌⊎◌, ◌==◌, ◌||◌, ℕ, Bool, true, false, not, List, [], ◌∷◌, ⊤}
use Rattle.site_vector.specs.declared.ids.PartId.{PartId}
use Rattle.site_vector.specs.declared.ids.TxId.{TxId}
use Rattle.crdt_core.specs.declared.object.ObjectId.{ObjectId}
use Rattle.crdt_core.specs.declared.operation.Op.{Op}
use Rattle.world_model.specs.rules.Asking.{asked_by}
use Rattle.world_model.specs.rules.Event.{Ask, AskTick, AskReport, AskHear, Event, Ticked, Began, Updated, Read, Prepared, Decided, Finished, Sent, Took, Reported, Heard, Refused, RestartCut, Cut, Refusal, ClockBehind, TxPending, StableBehind, ClockAtEnd, HasNoRoom, attempt}
use Rattle.txn_session.specs.Calls.{Call}

-- what is done by a call; a partition is named where the rest doesn't tell it
pub data Deed : Type 0 where
  -- a clock is read, whatever it shows
  Ticks : (at : PartId) → Deed
  -- a transaction begins, of the session of this name
  Begins : (at : PartId) (who : List ℕ) (tx : TxId) → Deed
  Reads : (tx : TxId) (object : ObjectId) → Deed
  Updates : (tx : TxId) (object : ObjectId) (op : Op) → Deed
  Prepares : (at : PartId) (tx : TxId) → Deed
  Decides : (at : PartId) (tx : TxId) → Deed
  Finishes : (at : PartId) (tx : TxId) → Deed
  -- a message for this site
  Sends : (at : PartId) (to : ℕ) → Deed
  -- a message of this site
  Takes : (at : PartId) (sender : ℕ) → Deed
  Reports : (at : PartId) → Deed
  -- the report of the partition with this number
  Hears : (at : PartId) (part : ℕ) → Deed

-- what is asked again: after a wait, or want of time or room
abbrev pub may_pass : Refusal → Bool
may_pass (ClockBehind n) = true
may_pass (TxPending t n) = true
may_pass (StableBehind j n) = true
may_pass ClockAtEnd = true
may_pass (HasNoRoom n) = true
may_pass other = false

module _ {E : Type 0} where
  -- at this place the event does it
  abbrev pub IsDone : Deed → PartId → Event E → Type 0
  IsDone (Ticks p) at (Ticked r n) = at ≡ p
  IsDone (Begins p who t) at (Began name wish u s) = (at ≡ p) × (name ≡ who) × (u ≡ t)
  IsDone (Reads t o) at (Read u s object own read value) = (u ≡ t) × (object ≡ o)
  IsDone (Updates t o op) at (Updated u s object own asked read x stamp) = (u ≡ t) × (object ≡ o) × (asked ≡ op)
  IsDone (Prepares p t) at (Prepared u s l w n) = (at ≡ p) × (u ≡ t)
  IsDone (Decides p t) at (Decided u c) = (at ≡ p) × (u ≡ t)
  IsDone (Finishes p t) at (Finished u c) = (at ≡ p) × (u ≡ t)
  IsDone (Sends p to) at (Sent asked m) = (at ≡ p) × (m.to ≡ to)
  IsDone (Takes p sender) at (Took number m) = (at ≡ p) × (m.from ≡ sender)
  IsDone (Reports p) at (Reported bounds) = at ≡ p
  IsDone (Hears p q) at (Heard number part bounds stable) = (at ≡ p) × (part ≡ q)
  IsDone deed at other = ⊥

  -- clocks are read and reports told and heard at any time
  abbrev pub is_aside : Ask E → Bool
  is_aside (AskTick r) = true
  is_aside AskReport = true
  is_aside (AskHear number part bounds) = true
  is_aside other = false

  abbrev pub is_put_off : Event E → Bool
  is_put_off (Refused ask why) = may_pass why
  is_put_off other = false

  -- what may stand between the calls of a caller that do something
  abbrev pub is_between : Event E → Bool
  is_between e = is_aside (asked_by (attempt e)) || is_put_off e

  -- these calls do what is to be done, in its order; the newest first
  abbrev pub Follows : List Deed → List (Call E) → Type 0
  Follows [] [] = ⊤
  Follows (d ∷ deeds) [] = ⊥
  Follows [] (c ∷ calls) = (is_between c.entry.event ≡ true) × Follows [] calls
  Follows (d ∷ deeds) (c ∷ calls) = (IsDone d c.entry.at c.entry.event × Follows deeds calls) ⊎ ((is_between c.entry.event ≡ true) × Follows (d ∷ deeds) calls)

  -- the partition is down, or refuses for good, or its disk failed
  abbrev pub is_stop : Event E → Bool
  is_stop (Refused ask why) = not (may_pass why)
  is_stop (Cut what) = true
  is_stop RestartCut = true
  is_stop other = false

  -- one of these calls was of a partition that stopped
  abbrev pub HasStopped : PartId → List (Call E) → Type 0
  HasStopped part [] = ⊥
  HasStopped part (c ∷ calls) = ((c.entry.at ≡ part) × (is_stop c.entry.event ≡ true)) ⊎ HasStopped part calls
