-- The steps in traces as events of the world, and back.
use Rattle.std.specs.Prelude.{Bool, true, false, not}
use Rattle.world_model.specs.rules.Event.{led_by, Ask, AskTick, AskBegin, AskRead, AskUpdate, AskPrepare, AskDecide, AskFinish, AskAbort, AskMessage, AskTake, AskReport, AskHear, AskRestart, Event, is_restart}
use Rattle.world_model.specs.rules.Event as event
use Rattle.partition_lock.specs.declared.told.Asked.{Asked}
use Rattle.partition_lock.specs.declared.told.Asked.TheVariants.{Tick, Begin, Update, Prepare, Decide, Finish, Abort, Message, Take, Report, Hear}
use Rattle.partition_lock.specs.declared.told.Asked.TheVariants as asked
use Rattle.partition_lock.specs.declared.told.Done.{Done}
use Rattle.partition_lock.specs.declared.told.Done.TheVariants.{Ticked, Began, Updated, Prepared, Decided, Finished, Aborted, Sent, Took, Reported, Heard}
use Rattle.partition_lock.specs.declared.told.Done.TheVariants as done
use Rattle.partition_lock.specs.declared.told.Cause.{Cause}
use Rattle.partition_lock.specs.declared.told.Cause.TheVariants as why
use Rattle.partition_lock.specs.declared.told.Told.{Told}
use Rattle.partition_lock.specs.declared.told.Told.TheVariants.{Did}
use Rattle.partition_lock.specs.declared.told.Told.TheVariants as told

abbrev pub cause_of : Cause → event.Refusal
cause_of why.Down = event.IsDown
cause_of (why.ClockBehind n) = event.ClockBehind n
cause_of (why.TxPending t n) = event.TxPending t n
cause_of (why.StableBehind j n) = event.StableBehind j n
cause_of why.ClockAtEnd = event.ClockAtEnd
cause_of why.Gone = event.IsGone
cause_of (why.Gap n) = event.HasGap n
cause_of (why.Repeat n) = event.IsRepeat n
cause_of why.BadOp = event.IsBadOp
cause_of (why.NoRoom n) = event.HasNoRoom n
cause_of (why.Damaged n) = event.IsDamaged n

abbrev pub of_cause : event.Refusal → Cause
of_cause event.IsDown = why.Down
of_cause (event.ClockBehind n) = why.ClockBehind n
of_cause (event.TxPending t n) = why.TxPending t n
of_cause (event.StableBehind j n) = why.StableBehind j n
of_cause event.ClockAtEnd = why.ClockAtEnd
of_cause event.IsGone = why.Gone
of_cause (event.HasGap n) = why.Gap n
of_cause (event.IsRepeat n) = why.Repeat n
of_cause event.IsBadOp = why.BadOp
of_cause (event.HasNoRoom n) = why.NoRoom n
of_cause (event.IsDamaged n) = why.Damaged n

module _ {E : Type 0} where
  abbrev pub ask_of : Asked E → Ask E
  ask_of (Tick r) = AskTick r
  ask_of (Begin who past stable) = AskBegin who (record { past = past; stable = stable })
  ask_of (asked.Read t s o own) = AskRead t s o own
  ask_of (Update t s o own op) = AskUpdate t s o own op
  ask_of (Prepare t s l w) = AskPrepare t s (led_by l) w
  ask_of (Decide t c) = AskDecide t c
  ask_of (Finish t c) = AskFinish t c
  ask_of (Abort t) = AskAbort t
  ask_of (Message to from) = AskMessage to from
  ask_of (Take n m) = AskTake n m
  ask_of Report = AskReport
  ask_of (Hear n p b) = AskHear n p b

  -- nobody asks a partition of many threads to restart
  abbrev pub of_ask : Ask E → Asked E
  of_ask (AskTick r) = Tick r
  of_ask (AskBegin who wish) = Begin who wish.past wish.stable
  of_ask (AskRead t s o own) = asked.Read t s o own
  of_ask (AskUpdate t s o own op) = Update t s o own op
  of_ask (AskPrepare t s l w) = Prepare t s l.lead w
  of_ask (AskDecide t c) = Decide t c
  of_ask (AskFinish t c) = Finish t c
  of_ask (AskAbort t) = Abort t
  of_ask (AskMessage to from) = Message to from
  of_ask (AskTake n m) = Take n m
  of_ask AskReport = Report
  of_ask (AskHear n p b) = Hear n p b
  of_ask AskRestart = Report

  abbrev pub done_of : Done E → Event E
  done_of (Ticked r n) = event.Ticked r n
  done_of (Began who past stable t s) = event.Began who (record { past = past; stable = stable }) t s
  done_of (Updated t s o own op read u stamp) = event.Updated t s o own op read u stamp
  done_of (done.Read t s o own read v) = event.Read t s o own read v
  done_of (Prepared t s l w n) = event.Prepared t s (led_by l) w n
  done_of (Decided t c) = event.Decided t c
  done_of (Finished t c) = event.Finished t c
  done_of (Aborted t own) = event.Aborted t own
  done_of (Sent from m) = event.Sent from m
  done_of (Took n m) = event.Took n m
  done_of (Reported b) = event.Reported b
  done_of (Heard n p b stable) = event.Heard n p b stable

  -- whether a partition does this when it is called
  abbrev pub is_done : Event E → Bool
  is_done (event.Ticked r n) = true
  is_done (event.Began who wish t s) = true
  is_done (event.Updated t s o own op read u stamp) = true
  is_done (event.Read t s o own read v) = true
  is_done (event.Prepared t s l w n) = true
  is_done (event.Decided t c) = true
  is_done (event.Finished t c) = true
  is_done (event.Aborted t own) = true
  is_done (event.Sent from m) = true
  is_done (event.Took n m) = true
  is_done (event.Reported b) = true
  is_done (event.Heard n p b stable) = true
  is_done other = false

  abbrev pub of_done : Event E → Done E
  of_done (event.Ticked r n) = Ticked r n
  of_done (event.Began who wish t s) = Began who wish.past wish.stable t s
  of_done (event.Updated t s o own op read u stamp) = Updated t s o own op read u stamp
  of_done (event.Read t s o own read v) = done.Read t s o own read v
  of_done (event.Prepared t s l w n) = Prepared t s l.lead w n
  of_done (event.Decided t c) = Decided t c
  of_done (event.Finished t c) = Finished t c
  of_done (event.Aborted t own) = Aborted t own
  of_done (event.Sent from m) = Sent from m
  of_done (event.Took n m) = Took n m
  of_done (event.Reported b) = Reported b
  of_done (event.Heard n p b stable) = Heard n p b stable
  of_done other = Ticked 0 0

  abbrev pub event_of : Told E → Event E
  event_of (Did what) = done_of what
  event_of (told.Cut what) = event.Cut (done_of what)
  event_of (told.Refused a c) = event.Refused (ask_of a) (cause_of c)

  -- whether it is a step of a partition that is called
  abbrev pub is_told : Event E → Bool
  is_told (event.Cut what) = is_done what
  is_told (event.Refused a c) = not (is_restart a)
  is_told other = is_done other

  abbrev pub of_event : Event E → Told E
  of_event (event.Cut what) = told.Cut (of_done what)
  of_event (event.Refused a c) = told.Refused (of_ask a) (of_cause c)
  of_event other = Did (of_done other)
