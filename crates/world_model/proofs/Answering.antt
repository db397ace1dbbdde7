-- A refusal answers a call that it may answer.
use Rattle.std.proofs.Common.{◌≡◌, ℕ, true, not, List, [], ◌∷◌, None, Some, refl, sym, ap, ◌∙◌}
use Rattle.site_vector.specs.declared.ids.PartId.{PartId}
use Rattle.world_model.specs.rules.Event.{AskTick, AskBegin, AskRead, AskUpdate, AskPrepare, AskDecide, AskFinish, AskAbort, AskTake, AskRestart, IsDown, ClockBehind, TxPending, StableBehind, ClockAtEnd, IsGone, HasGap, IsRepeat, IsBadOp, HasNoRoom, IsDamaged, Event, Updated, Read, Crashed, RestartCut, Restarted, Refused, Opened, Cut, Entry, EventsAre}
use Rattle.crdt_core.specs.declared.record.Record.{Record}
use Rattle.crdt_core.specs.Fitting.{unfit}
use Rattle.crdt_core.specs.KindsOf.{Kinds}
use Rattle.world_model.specs.rules.Partition.{PartState, Finds, MayDo, PartStep}
use Rattle.world_model.specs.rules.Plan.{Plan, IsFit}
use Rattle.world_model.proofs.Runs.{IsRun}
use Rattle.world_model.specs.events.Causes.{HasCauseAt, HaveCausesAt}
use Rattle.world_model.specs.events.Restarts.{is_call}
use Rattle.world_model.specs.events.Answers.{IsDueAt, AreDue, IsKnown}
use Rattle.world_model.proofs.Names.{clash}
use Rattle.world_model.proofs.Fitted.{PlanFits, good_unfit, good_run}

none_some : (k : ℕ) → None ≡ Some k → ⊥
none_some k e = absurd (cc e)

module _ {E : Type 0} {S : Type 0} (kinds : Kinds S E) where
  is_called : (sites parts : ℕ) (id : PartId) (p : PartState E) (what : Event E) → MayDo kinds sites parts id p what → is_call what ≡ true
  is_called sites parts id p Crashed k = absurd k
  is_called sites parts id p RestartCut k = absurd k
  is_called sites parts id p (Restarted n b named listed) k = absurd k
  is_called sites parts id p (Refused asked why) k = absurd k
  is_called sites parts id p (Opened who) k = absurd k
  is_called sites parts id p (Cut a) k = absurd k
  is_called sites parts id p what k = refl

  due_event : (plan : Plan E) (run : List (Entry E)) (at : PartId) (p q : PartState E) (event : Event E) → ((log : List (Record E)) → Finds p log → unfit plan.sites plan.parts at log ≡ None) → PartStep kinds plan.sites plan.parts at p event q → HasCauseAt plan run at event × IsFit kinds event → IsDueAt event
  due_event plan run at p q (Refused asked IsDown) fit st h = ap not st.0.1
  due_event plan run at p q (Refused (AskRead t s o own) (ClockBehind n)) fit st h = refl
  due_event plan run at p q (Refused (AskUpdate t s o own op) (ClockBehind n)) fit st h = refl
  due_event plan run at p q (Refused (AskPrepare t s l w) (ClockBehind n)) fit st h = refl
  due_event plan run at p q (Refused (AskRead t s o own) (TxPending u n)) fit st h = refl
  due_event plan run at p q (Refused (AskUpdate t s o own op) (TxPending u n)) fit st h = refl
  due_event plan run at p q (Refused (AskBegin who dep) (StableBehind j n)) fit st h = refl
  due_event plan run at p q (Refused (AskBegin who dep) ClockAtEnd) fit st h = refl
  due_event plan run at p q (Refused (AskPrepare t s l w) ClockAtEnd) fit st h = refl
  due_event plan run at p q (Refused (AskDecide t c) IsGone) fit st h = refl
  due_event plan run at p q (Refused (AskAbort t) IsGone) fit st h = refl
  due_event plan run at p q (Refused (AskFinish t c) IsGone) fit st h = absurd h.0
  due_event plan run at p q (Refused (AskUpdate t s o own op) IsBadOp) fit st h = clash h.1 st.0.1
  due_event plan run at p q (Refused (AskTake number m) (HasGap n)) fit st h = refl
  due_event plan run at p q (Refused (AskTake number m) (IsRepeat n)) fit st h = refl
  due_event plan run at p q (Refused (AskTick r) (HasNoRoom n)) fit st h = refl
  due_event plan run at p q (Refused (AskBegin who dep) (HasNoRoom n)) fit st h = refl
  due_event plan run at p q (Refused (AskPrepare t s l w) (HasNoRoom n)) fit st h = refl
  due_event plan run at p q (Refused (AskDecide t c) (HasNoRoom n)) fit st h = refl
  due_event plan run at p q (Refused (AskFinish t c) (HasNoRoom n)) fit st h = refl
  due_event plan run at p q (Refused (AskAbort t) (HasNoRoom n)) fit st h = refl
  due_event plan run at p q (Refused (AskTake number m) (HasNoRoom n)) fit st h = refl
  due_event plan run at p q (Refused AskRestart (IsDamaged k)) fit st h = absurd (none_some k (sym (fit st.0.log st.0.found) ∙ st.0.first))
  due_event plan run at p q (Refused asked why) fit st h = absurd st.0.1
  due_event plan run at p q (Cut what) fit st h = is_called plan.sites plan.parts at p what st.1
  due_event plan run at p q event fit st h = tt

  pub due_events : (plan : Plan E) → PlanFits plan → (run : List (Entry E)) (parts : PartId → PartState E) → IsRun kinds plan run parts → HaveCausesAt plan run → AreDue run
  due_events plan pf [] parts r h = tt
  due_events plan pf (e ∷ run) parts r h = (due_event plan run e.at (r.0 e.at) (parts e.at) e.event (λ log i. good_unfit plan e.at log ((good_run kinds plan pf run r.0 r.1).logs e.at log i)) r.2.step (h.0, r.2.fit), due_events plan pf run r.0 r.1 h.1)

  known_event : (sites parts : ℕ) (at : PartId) (p q : PartState E) (event : Event E) → PartStep kinds sites parts at p event q → IsFit kinds event → IsKnown kinds at event
  known_event sites parts at p q (Read t s o own read value) st fit = st.1.2
  known_event sites parts at p q (Updated t s o own op read u stamp) st fit = (st.1.known, st.1.fits)
  known_event sites parts at p q (Refused (AskUpdate t s o own op) why) st fit = fit
  known_event sites parts at p q (Cut (Updated t s o own op read u stamp)) st fit = st.1.fits
  known_event sites parts at p q event st fit = tt

  pub known_events : (plan : Plan E) (run : List (Entry E)) (parts : PartId → PartState E) → IsRun kinds plan run parts → EventsAre (IsKnown kinds) run
  known_events plan [] parts r = tt
  known_events plan (e ∷ run) parts r = (known_event plan.sites plan.parts e.at (r.0 e.at) (parts e.at) e.event r.2.step r.2.fit, known_events plan run r.0 r.1)
