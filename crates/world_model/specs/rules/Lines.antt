-- The lines that a run of the world shows: one for each step, with the call that it answers.
use Rattle.std.specs.Prelude.{ℕ, ◌+◌, if◌then◌else◌, List, [], ◌∷◌, length}
use Rattle.site_vector.specs.declared.ids.PartId.{PartId}
use Rattle.site_vector.specs.declared.ids.TxId.{TxId}
use Rattle.site_vector.specs.Ids.{same_tx}
use Rattle.world_model.specs.declared.step.Step.{Step}
use Rattle.world_model.specs.declared.step.Step.TheVariants as step
use Rattle.world_model.specs.rules.Event.{Ask, AskTick, AskBegin, AskRead, AskUpdate, AskPrepare, AskDecide, AskFinish, AskAbort, AskMessage, AskTake, AskReport, AskHear, AskRestart, Refusal, IsDown, ClockBehind, TxPending, StableBehind, ClockAtEnd, IsGone, HasGap, IsRepeat, IsBadOp, HasNoRoom, IsDamaged, Event, Ticked, Began, Updated, Read, Prepared, Decided, Finished, Aborted, Sent, Took, Reported, Heard, Crashed, RestartCut, Restarted, Refused, Opened, Cut, Entry, sent_count, report_count}
use Rattle.world_model.specs.lines.Lines.{Call, Tick, Begin, ReadOf, UpdateOf, PrepareOf, DecideOf, FinishOf, AbortOf, SendTo, TakeOf, Report, HearOf, Crash, Restart, Open, Line}

module _ {E : Type 0} where
  abbrev pub session_after : TxId → List ℕ → Event E → List ℕ
  session_after t old (Began who dep u s) = if same_tx u t then who else old
  session_after t old other = old

  -- the session of t: who began it
  abbrev pub session_of : List (Entry E) → TxId → List ℕ
  session_of [] t = []
  session_of (e ∷ run) t = session_after t (session_of run t) e.event

  abbrev pub call_asked : Ask E → Call
  call_asked (AskTick r) = Tick r
  call_asked (AskBegin who dep) = Begin who dep
  call_asked (AskRead t s o own) = ReadOf t o
  call_asked (AskUpdate t s o own op) = UpdateOf t o op
  call_asked (AskPrepare t s l w) = PrepareOf t
  call_asked (AskDecide t c) = DecideOf t
  call_asked (AskFinish t c) = FinishOf t
  call_asked (AskAbort t) = AbortOf t
  call_asked (AskMessage site asked) = SendTo site asked
  call_asked (AskTake number m) = TakeOf number m.from m.lo m.hi
  call_asked AskReport = Report
  call_asked (AskHear number q b) = HearOf number q b
  call_asked AskRestart = Restart

  abbrev pub call_done : Event E → Call
  call_done (Ticked r n) = Tick r
  call_done (Began who dep t s) = Begin who dep
  call_done (Updated t s o own op read u stamp) = UpdateOf t o op
  call_done (Read t s o own read value) = ReadOf t o
  call_done (Prepared t s l w n) = PrepareOf t
  call_done (Decided t c) = DecideOf t
  call_done (Finished t c) = FinishOf t
  call_done (Aborted t own) = AbortOf t
  call_done (Sent asked m) = SendTo m.to asked
  call_done (Took number m) = TakeOf number m.from m.lo m.hi
  call_done (Reported b) = Report
  call_done (Heard number q b stable) = HearOf number q b
  call_done Crashed = Crash
  call_done RestartCut = Restart
  call_done (Restarted n b named listed) = Restart
  call_done (Opened who) = Open
  call_done (Refused asked why) = call_asked asked
  call_done (Cut what) = Crash

  -- the call that was cut off: what was refused isn't
  abbrev pub call_cut : Event E → Call
  call_cut (Refused asked why) = Crash
  call_cut what = call_done what

  abbrev pub call_of : Event E → Call
  call_of (Cut what) = call_cut what
  call_of e = call_done e

  -- the transaction that a refused call named
  abbrev pub tx_asked : Ask E → TxId
  tx_asked (AskDecide t c) = t
  tx_asked (AskFinish t c) = t
  tx_asked (AskAbort t) = t
  tx_asked other = record { site = 0; part = 0; time = 0 }

  -- the number of the message that wasn't taken
  abbrev pub number_asked : Ask E → ℕ
  number_asked (AskTake number m) = number
  number_asked other = 0

  abbrev pub refusal_shown : List (Entry E) → PartId → Ask E → Refusal → Step
  refusal_shown run p asked IsDown = step.Down p
  refusal_shown run p asked (ClockBehind n) = step.WaitClock p n
  refusal_shown run p asked (TxPending t n) = step.WaitTxn p t n
  refusal_shown run p asked (StableBehind j n) = step.WaitStable j n
  refusal_shown run p asked ClockAtEnd = step.TimeEnd
  refusal_shown run p asked IsGone = step.Gone p (tx_asked asked)
  refusal_shown run p asked (HasGap n) = step.Gap (number_asked asked) n
  refusal_shown run p asked (IsRepeat n) = step.Dup (number_asked asked) n
  refusal_shown run p asked IsBadOp = step.BadOp
  refusal_shown run p asked (HasNoRoom n) = step.Full n
  refusal_shown run p asked (IsDamaged k) = step.Damaged p k

  -- a call that was cut off: a decide leaves its transaction in doubt
  abbrev pub fault_shown : PartId → Event E → Step
  fault_shown p (Decided t c) = step.Unsure t
  fault_shown p other = step.Disk p

  abbrev pub step_shown : List (Entry E) → PartId → Event E → Step
  step_shown run p (Ticked r n) = step.Ticked p n
  step_shown run p (Began who dep t s) = step.Began who t s
  step_shown run p (Updated t s o own op read u stamp) = step.Updated (session_of run t) o stamp
  step_shown run p (Read t s o own read value) = step.Value (session_of run t) o value
  step_shown run p (Prepared t s l w n) = step.Prepared p t n
  step_shown run p (Decided t c) = step.Decided p t c
  step_shown run p (Finished t c) = step.Finished p t
  step_shown run p (Aborted t own) = step.Aborted p t
  step_shown run p (Sent asked m) = step.Sent (sent_count run p + 1) p m.to m.lo m.hi (length m.parts)
  step_shown run p (Took number m) = step.Took number m.hi
  step_shown run p (Reported b) = step.Reported (report_count run p + 1) p b
  step_shown run p (Heard number q b stable) = step.Heard number p stable
  step_shown run p Crashed = step.Crashed p
  step_shown run p RestartCut = step.Disk p
  step_shown run p (Restarted n b named listed) = step.Restarted p n b named listed
  step_shown run p (Opened who) = step.MadeSession who p.site
  step_shown run p (Refused asked why) = refusal_shown run p asked why
  step_shown run p (Cut what) = fault_shown p what

  -- the lines of a run, the newest first
  abbrev pub shown_lines : List (Entry E) → List Line
  shown_lines [] = []
  shown_lines (e ∷ run) = (record { at = e.at; call = call_of e.event; step = step_shown run e.at e.event }) ∷ shown_lines run
