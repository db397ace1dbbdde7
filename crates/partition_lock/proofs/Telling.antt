-- Each step of a partition that is called can stand in a trace.
use Rattle.std.specs.Prelude.{not}
use Rattle.std.proofs.Common.{◌≡◌, Bool, true, false, refl, ap, sym, ◌∙◌}
use Rattle.world_model.specs.rules.Event.{Ask, AskTick, AskBegin, AskRead, AskUpdate, AskPrepare, AskDecide, AskFinish, AskAbort, AskMessage, AskTake, AskReport, AskHear, AskRestart, Event, Crashed, RestartCut, Restarted, Opened, is_restart}
use Rattle.world_model.specs.rules.Event as event
use Rattle.world_model.proofs.Names.{off}
use Rattle.world_model.specs.threads.Marks.{is_restarted}
use Rattle.partition_lock.specs.Events.{cause_of, of_cause, ask_of, of_ask, done_of, of_done, is_done, event_of, of_event, is_told}

cause_is : (c : event.Refusal) → cause_of (of_cause c) ≡ c
cause_is event.IsDown = refl
cause_is (event.ClockBehind n) = refl
cause_is (event.TxPending t n) = refl
cause_is (event.StableBehind j n) = refl
cause_is event.ClockAtEnd = refl
cause_is event.IsGone = refl
cause_is (event.HasGap n) = refl
cause_is (event.IsRepeat n) = refl
cause_is event.IsBadOp = refl
cause_is (event.HasNoRoom n) = refl
cause_is (event.IsDamaged n) = refl

no_restart : (b : Bool) → not b ≡ true → b ≡ false
no_restart true h = off h
no_restart false h = refl

module _ {E : Type 0} where
  ask_is : (a : Ask E) → is_restart a ≡ false → ask_of (of_ask a) ≡ a
  ask_is (AskTick r) h = refl
  ask_is (AskBegin who wish) h = refl
  ask_is (AskRead t s o own) h = refl
  ask_is (AskUpdate t s o own op) h = refl
  ask_is (AskPrepare t s l w) h = refl
  ask_is (AskDecide t c) h = refl
  ask_is (AskFinish t c) h = refl
  ask_is (AskAbort t) h = refl
  ask_is (AskMessage to from) h = refl
  ask_is (AskTake n m) h = refl
  ask_is AskReport h = refl
  ask_is (AskHear n p b) h = refl
  ask_is AskRestart h = off (sym h)

  done_is : (e : Event E) → is_done e ≡ true → done_of (of_done e) ≡ e
  done_is (event.Ticked r n) h = refl
  done_is (event.Began who wish t s) h = refl
  done_is (event.Updated t s o own op read u stamp) h = refl
  done_is (event.Read t s o own read v) h = refl
  done_is (event.Prepared t s l w n) h = refl
  done_is (event.Decided t c) h = refl
  done_is (event.Finished t c) h = refl
  done_is (event.Aborted t own) h = refl
  done_is (event.Sent from m) h = refl
  done_is (event.Took n m) h = refl
  done_is (event.Reported b) h = refl
  done_is (event.Heard n p b stable) h = refl
  done_is e h = off h

  pub told_is : (e : Event E) → is_told e ≡ true → event_of (of_event e) ≡ e
  told_is (event.Ticked r n) h = refl
  told_is (event.Began who wish t s) h = refl
  told_is (event.Updated t s o own op read u stamp) h = refl
  told_is (event.Read t s o own read v) h = refl
  told_is (event.Prepared t s l w n) h = refl
  told_is (event.Decided t c) h = refl
  told_is (event.Finished t c) h = refl
  told_is (event.Aborted t own) h = refl
  told_is (event.Sent from m) h = refl
  told_is (event.Took n m) h = refl
  told_is (event.Reported b) h = refl
  told_is (event.Heard n p b stable) h = refl
  told_is (event.Cut what) h = ap (λ x. event.Cut x) (done_is what h)
  told_is (event.Refused a c) h = ap (λ x. event.Refused x (cause_of (of_cause c))) (ask_is a (no_restart (is_restart a) h)) ∙ ap (λ x. event.Refused a x) (cause_is c)
  told_is e h = off h

  pub done_told : (e : Event E) → is_done e ≡ true → is_told e ≡ true
  done_told (event.Cut what) h = off h
  done_told (event.Refused a c) h = off h
  done_told e h = h

  pub unbroken : (e : Event E) → is_told e ≡ true → is_restarted e ≡ false
  unbroken (Restarted n b named listed) h = off h
  unbroken e h = refl
