-- Which refusals may answer which call. That a log is damaged answers none: a restart finds what the run wrote. Nor does that an
-- operation is none of its kind: a session refuses it before it asks a partition.
use Rattle.std.specs.Prelude.{◌≡◌, Bool, true, false, not, List, [], ◌∷◌, ⊤}
use Rattle.world_model.specs.rules.Event.{Ask, AskTick, AskBegin, AskRead, AskUpdate, AskPrepare, AskDecide, AskFinish, AskAbort, AskTake, is_restart, Refusal, IsDown, ClockBehind, TxPending, StableBehind, ClockAtEnd, IsGone, HasGap, IsRepeat, HasNoRoom, Event, Updated, Read, Refused, Cut, Entry}
use Rattle.site_vector.specs.declared.ids.PartId.{PartId}
use Rattle.crdt_core.specs.KindsOf.{Kinds, fits_kind}
use Rattle.world_model.specs.events.Restarts.{is_call}

module _ {E : Type 0} where
  abbrev pub may_answer : Ask E → Refusal → Bool
  may_answer asked IsDown = not (is_restart asked)
  may_answer (AskRead t s o own) (ClockBehind n) = true
  may_answer (AskUpdate t s o own op) (ClockBehind n) = true
  may_answer (AskPrepare t s l w) (ClockBehind n) = true
  may_answer (AskRead t s o own) (TxPending u n) = true
  may_answer (AskUpdate t s o own op) (TxPending u n) = true
  may_answer (AskBegin who dep) (StableBehind j n) = true
  may_answer (AskBegin who dep) ClockAtEnd = true
  may_answer (AskPrepare t s l w) ClockAtEnd = true
  may_answer (AskDecide t c) IsGone = true
  may_answer (AskAbort t) IsGone = true
  may_answer (AskTake number m) (HasGap n) = true
  may_answer (AskTake number m) (IsRepeat n) = true
  may_answer (AskTick r) (HasNoRoom n) = true
  may_answer (AskBegin who dep) (HasNoRoom n) = true
  may_answer (AskPrepare t s l w) (HasNoRoom n) = true
  may_answer (AskDecide t c) (HasNoRoom n) = true
  may_answer (AskFinish t c) (HasNoRoom n) = true
  may_answer (AskAbort t) (HasNoRoom n) = true
  may_answer (AskTake number m) (HasNoRoom n) = true
  may_answer asked why = false

  -- what a crash cuts off is a call
  abbrev pub IsDueAt : Event E → Type 0
  IsDueAt (Refused asked why) = may_answer asked why ≡ true
  IsDueAt (Cut what) = is_call what ≡ true
  IsDueAt other = ⊤

  -- what is read or updated is of a kind that there is, and every update's operation is one of the kind, whatever answers it
  abbrev pub IsKnown : {S : Type 0} → Kinds S E → PartId → Event E → Type 0
  IsKnown kinds p (Read t s o own read value) = kinds.has o.kind ≡ true
  IsKnown kinds p (Updated t s o own op read u stamp) = (kinds.has o.kind ≡ true) × (fits_kind kinds.too_deep o op ≡ true)
  IsKnown kinds p (Refused (AskUpdate t s o own op) why) = fits_kind kinds.too_deep o op ≡ true
  IsKnown kinds p (Cut (Updated t s o own op read u stamp)) = fits_kind kinds.too_deep o op ≡ true
  IsKnown kinds p other = ⊤

  abbrev pub AreDue : List (Entry E) → Type 0
  AreDue [] = ⊤
  AreDue (e ∷ run) = IsDueAt e.event × AreDue run
