-- The causes of refusals, and of answers that aren't, by what a run shows.
use Rattle.std.specs.Prelude.{◌≡◌, ℕ, ◌<◌, ◌≤◌, true, false, ◌||◌, List, [], ◌∷◌, length, ⊤}
use Rattle.site_vector.specs.declared.ids.PartId.{PartId}
use Rattle.site_vector.specs.declared.ids.TxId.{TxId}
use Rattle.site_vector.specs.Vector.{entry}
use Rattle.crdt_core.specs.declared.object.ObjectId.{ObjectId}
use Rattle.crdt_core.specs.Kinds.{reads_state}
use Rattle.crdt_core.specs.Log.{end_of_time}
use Rattle.crdt_core.specs.Parts.{touches}
use Rattle.world_model.specs.rules.Event.{Began, Updated, Read, AskRead, AskUpdate, AskDecide, AskAbort, AskTake, TxPending, IsGone, HasGap, IsRepeat, Event, Prepared, Decided, Finished, Aborted, Sent, Took, Reported, Restarted, Refused, Entry, shown, AskPrepare, AskFinish, ClockBehind, ClockAtEnd, Cut, AskRestart, IsDown, IsDamaged, Crashed, RestartCut, Opened, Ask, AskBegin, HasNoRoom, ask_of}
use Rattle.world_model.specs.events.Pending.{is_down, pending_shown, pending_time}
use Rattle.world_model.specs.lines.Places.{IsOther}
use Rattle.world_model.specs.rules.Plan.{Plan}
use Rattle.world_model.specs.events.Bounds.{bound_shown, IsOwnBoundAt}
use Rattle.world_model.specs.events.Fate.{committed_shown, MayAbortAt}
use Rattle.world_model.specs.events.Fresh.{AreEnoughAt}
use Rattle.world_model.specs.lines.Listed.{IsBefore, AreInOrder, IsReadyBy, IsFirstBy, IsOwnBoundOf}

module _ {E : Type 0} where
  -- a wait for the clock shows the last value shown, which the transaction's snapshot exceeds; a finish is never refused but where the partition is down
  abbrev pub HasCauseAt : Plan E → List (Entry E) → PartId → Event E → Type 0
  HasCauseAt plan run p (Refused (AskRead t s o own) (ClockBehind n)) = (n ≡ shown run p) × (n < entry (plan.snapshot t) p.site)
  HasCauseAt plan run p (Refused (AskUpdate t s o own op) (ClockBehind n)) = (reads_state o.kind ≡ true) × (n ≡ shown run p) × (n < entry (plan.snapshot t) p.site)
  HasCauseAt plan run p (Refused (AskPrepare t s l w) (ClockBehind n)) = (n ≡ shown run p) × (n < entry (plan.snapshot t) p.site)
  HasCauseAt plan run p (Refused (AskPrepare t s l w) ClockAtEnd) = (entry (plan.snapshot t) p.site ≤ shown run p) × (shown run p ≡ end_of_time)
  HasCauseAt plan run p (Refused asked ClockAtEnd) = shown run p ≡ end_of_time
  HasCauseAt plan run p (Refused (AskFinish t c) IsGone) = ⊥
  HasCauseAt plan run p other = ⊤

  abbrev pub HaveCausesAt : Plan E → List (Entry E) → Type 0
  HaveCausesAt plan [] = ⊤
  HaveCausesAt plan (e ∷ run) = HasCauseAt plan run e.at e.event × HaveCausesAt plan run

  -- a partition that is down answers nothing but that, until it restarts; one that is up never does. Both may crash and restart
  abbrev pub AnswersAsUp : List (Entry E) → PartId → Event E → Type 0
  AnswersAsUp run p (Restarted n b named listed) = ⊤
  AnswersAsUp run p Crashed = ⊤
  AnswersAsUp run p RestartCut = ⊤
  AnswersAsUp run p (Refused asked IsDown) = is_down run p ≡ true
  AnswersAsUp run p (Refused AskRestart (IsDamaged at)) = is_down run p ≡ true
  AnswersAsUp run p (Opened who) = ⊤
  AnswersAsUp run p other = is_down run p ≡ false

  abbrev pub AnswerAsUp : List (Entry E) → Type 0
  AnswerAsUp [] = ⊤
  AnswerAsUp (e ∷ run) = AnswersAsUp run e.at e.event × AnswerAsUp run

  -- the first of all that are pending and change the object, for a read under s
  abbrev pub IsFirstPending : Plan E → List (Entry E) → PartId → List ℕ → ObjectId → TxId → ℕ → Type 0
  IsFirstPending plan run p s o u n = IsFirstBy (shown run p) (pending_shown run p) (pending_time run p) (entry s p.site) (λ w. touches (plan.updates w p) o) u n

  -- no wait was due for a read of the object under s
  abbrev pub IsReadyAt : Plan E → List (Entry E) → PartId → List ℕ → ObjectId → Type 0
  IsReadyAt plan run p s o = IsReadyBy (shown run p) (pending_shown run p) (pending_time run p) (entry s p.site) (λ u. touches (plan.updates u p) o)

  -- what an event shows of bounds and of what is pending
  abbrev pub ShowsAt : Plan E → List (Entry E) → PartId → Event E → Type 0
  ShowsAt plan run p (Began who dep t s) = shown run p < end_of_time
  ShowsAt plan run p (Read t s o own read value) = IsReadyAt plan run p s o
  ShowsAt plan run p (Updated t s o own op read u stamp) = reads_state o.kind ≡ true → IsReadyAt plan run p s o
  ShowsAt plan run p (Prepared t s l w n) = (s ≡ plan.snapshot t) × (entry s p.site ≤ shown run p) × (shown run p < end_of_time)
  ShowsAt plan run p (Sent asked m) = IsOwnBoundAt run p m.hi
  ShowsAt plan run p (Took number m) = (m.lo ≤ bound_shown run p m.from) × (bound_shown run p m.from < m.hi)
  ShowsAt plan run p (Reported b) = (length b ≡ plan.sites) × IsOwnBoundAt run p (entry b p.site) × ((j : ℕ) → IsOther plan.sites p.site j → entry b j ≡ bound_shown run p j)
  ShowsAt plan run p (Restarted n b named listed) = (length b ≡ plan.sites) × AreInOrder IsBefore listed × IsOwnBoundOf n listed (entry b p.site)
  ShowsAt plan run p (Decided t c) = pending_shown run p t ≡ true
  ShowsAt plan run p (Finished t c) = (pending_shown run p t || committed_shown plan run p t) ≡ true
  ShowsAt plan run p (Aborted t own) = (pending_shown run p t ≡ true) × MayAbortAt plan run p t own
  ShowsAt plan run p (Refused (AskDecide t c) IsGone) = (pending_shown run p t || committed_shown plan run p t) ≡ false
  ShowsAt plan run p (Refused (AskAbort t) IsGone) = pending_shown run p t ≡ false
  ShowsAt plan run p (Refused (AskRead t s o own) (TxPending u n)) = IsFirstPending plan run p s o u n
  ShowsAt plan run p (Refused (AskUpdate t s o own op) (TxPending u n)) = (reads_state o.kind ≡ true) × IsFirstPending plan run p s o u n
  ShowsAt plan run p (Refused (AskTake number m) (HasGap n)) = (n ≡ bound_shown run p m.from) × (n < m.lo)
  ShowsAt plan run p (Refused (AskTake number m) (IsRepeat n)) = (n ≡ bound_shown run p m.from) × (m.lo ≤ n) × (m.hi ≤ n)
  ShowsAt plan run p other = ⊤

  abbrev pub ShowAt : Plan E → List (Entry E) → Type 0
  ShowAt plan [] = ⊤
  ShowAt plan (e ∷ run) = ShowsAt plan run e.at e.event × ShowAt plan run

  abbrev pub IsClear : Plan E → List (Entry E) → PartId → Ask E → Type 0
  IsClear plan run p (AskBegin who dep) = (shown run p < end_of_time) × AreEnoughAt plan run p dep
  IsClear plan run p (AskRead t s o own) = IsReadyAt plan run p s o
  IsClear plan run p (AskUpdate t s o own op) = reads_state o.kind ≡ true → IsReadyAt plan run p s o
  IsClear plan run p (AskPrepare t s l w) = (s ≡ plan.snapshot t) × (entry s p.site ≤ shown run p) × (shown run p < end_of_time)
  IsClear plan run p (AskDecide t c) = pending_shown run p t ≡ true
  IsClear plan run p (AskFinish t c) = (pending_shown run p t || committed_shown plan run p t) ≡ true
  IsClear plan run p (AskAbort t) = pending_shown run p t ≡ true
  IsClear plan run p (AskTake number m) = (m.lo ≤ bound_shown run p m.from) × (bound_shown run p m.from < m.hi)
  IsClear plan run p other = ⊤

  -- a call that was cut off, or that found no room, had no other cause
  abbrev pub IsClearAt : Plan E → List (Entry E) → PartId → Event E → Type 0
  IsClearAt plan run p (Cut what) = IsClear plan run p (ask_of what)
  IsClearAt plan run p (Refused asked (HasNoRoom n)) = IsClear plan run p asked
  IsClearAt plan run p other = ⊤

  abbrev pub AreClear : Plan E → List (Entry E) → Type 0
  AreClear plan [] = ⊤
  AreClear plan (e ∷ run) = IsClearAt plan run e.at e.event × AreClear plan run
