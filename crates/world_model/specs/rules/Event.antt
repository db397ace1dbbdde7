-- What happens at a partition, and what a list of such events shows, the newest first.
use Rattle.std.specs.Prelude.{◌≡◌, ◌⊎◌, ℕ, ◌+◌, max, Bool, true, false, ◌&&◌, ◌||◌, if◌then◌else◌, List, [], ◌∷◌, Option, ⊤}
use Rattle.site_vector.specs.declared.ids.PartId.{PartId}
use Rattle.site_vector.specs.declared.ids.TxId.{TxId}
use Rattle.site_vector.specs.Ids.{same_part, same_tx}
use Rattle.crdt_core.specs.declared.object.ObjectId.{ObjectId}
use Rattle.crdt_core.specs.declared.operation.Op.{Op}
use Rattle.crdt_core.specs.declared.value.Value.{Value}
use Rattle.crdt_core.specs.declared.record.Upd.{Upd}
use Rattle.crdt_core.specs.declared.record.Part.{Part}
use Rattle.crdt_core.specs.declared.record.Message.{Message}
use Rattle.world_model.specs.lines.Listed.{is_named}
use Rattle.world_model.specs.lines.Lines.{Wish}

-- what a vote is asked for with: the number of the lead
pub record Ballot : Type 0 where
  pub lead : ℕ

abbrev pub led_by : ℕ → Ballot
led_by number = record { lead = number }

-- a call that is refused
pub data Ask (E : Type 0) : Type 0 where
  AskTick : (clock_time : ℕ) → Ask E
  AskBegin : (who : List ℕ) (wish : Wish) → Ask E
  AskRead : (tx : TxId) (s : List ℕ) (object : ObjectId) (own : List (Upd E)) → Ask E
  AskUpdate : (tx : TxId) (s : List ℕ) (object : ObjectId) (own : List (Upd E)) (op : Op) → Ask E
  AskPrepare : (tx : TxId) (s : List ℕ) (ballot : Ballot) (updates : List (Upd E)) → Ask E
  AskDecide : (tx : TxId) (c : List ℕ) → Ask E
  AskFinish : (tx : TxId) (c : List ℕ) → Ask E
  AskAbort : (tx : TxId) → Ask E
  -- `asked`: from where, if the caller says
  AskMessage : (to : ℕ) (asked : Option ℕ) → Ask E
  -- the message with this number among those of its sender
  AskTake : (number : ℕ) (message : Message E) → Ask E
  AskReport : Ask E
  -- the report with this number among those of the partition `part`
  AskHear : (number part : ℕ) (bounds : List ℕ) → Ask E
  AskRestart : Ask E

-- why
pub data Refusal : Type 0 where
  IsDown : Refusal
  -- the clock, at this value, has not reached the snapshot
  ClockBehind : (now : ℕ) → Refusal
  -- a transaction, prepared at this time, may belong to the snapshot
  TxPending : (tx : TxId) (time : ℕ) → Refusal
  -- the stable entry of this site is below what the session depends on
  StableBehind : (site have : ℕ) → Refusal
  ClockAtEnd : Refusal
  -- the transaction isn't in a state that the call needs
  IsGone : Refusal
  -- the receiver has this bound: the message starts above it, or ends at or below it
  HasGap : (have : ℕ) → Refusal
  IsRepeat : (have : ℕ) → Refusal
  -- the operation isn't one of the kind, or leads deeper than the type reaches
  IsBadOp : Refusal
  -- the records that the call would add pass the room of the partition's disk
  HasNoRoom : (room : ℕ) → Refusal
  -- the record with this number, from 0, isn't one of the partition's
  IsDamaged : (at : ℕ) → Refusal

abbrev pub is_restart : {E : Type 0} → Ask E → Bool
is_restart AskRestart = true
is_restart other = false

-- a call of a partition, with what it was handed and what it answered, or a crash
pub data Event (E : Type 0) : Type 0 where
  Ticked : (clock_time now : ℕ) → Event E
  -- by a session, with what it depends on
  Began : (who : List ℕ) (wish : Wish) (tx : TxId) (s : List ℕ) → Event E
  -- with the earlier updates of the transaction, the parts that were read, in fold order, and the update that came of it
  Updated : (tx : TxId) (s : List ℕ) (object : ObjectId) (own : List (Upd E)) (op : Op) (read : List (Part E)) (change : Upd E) (stamp : Option ℕ) → Event E
  Read : (tx : TxId) (s : List ℕ) (object : ObjectId) (own : List (Upd E)) (read : List (Part E)) (value : Value) → Event E
  Prepared : (tx : TxId) (s : List ℕ) (ballot : Ballot) (updates : List (Upd E)) (time : ℕ) → Event E
  Decided : (tx : TxId) (c : List ℕ) → Event E
  Finished : (tx : TxId) (c : List ℕ) → Event E
  -- `own`: on the word of the session, and not of the lead
  Aborted : (tx : TxId) (own : Bool) → Event E
  -- `asked`: from where, if the caller says
  Sent : (asked : Option ℕ) (message : Message E) → Event E
  -- the message with this number among those of its sender
  Took : (number : ℕ) (message : Message E) → Event E
  Reported : (bounds : List ℕ) → Event E
  -- the report with this number among those of the partition `part`
  Heard : (number part : ℕ) (bounds stable : List ℕ) → Event E
  Crashed : Event E
  -- a crash inside a restart: what may be found stays
  RestartCut : Event E
  Restarted : (now : ℕ) (bounds : List ℕ) (named : Option TxId) (listed : List (TxId × ℕ)) → Event E
  Refused : (asked : Ask E) (why : Refusal) → Event E
  -- a session is opened under this name, or opened anew; no call of a partition
  Opened : (who : List ℕ) → Event E
  -- a crash inside the call that would have done this
  Cut : (what : Event E) → Event E

pub record Entry (E : Type 0) : Type 0 where
  pub at : PartId
  pub event : Event E

module _ {E : Type 0} where
  -- the call that an event answered; of what is no call it is one that is never refused but where the partition is down
  abbrev pub ask_of : Event E → Ask E
  ask_of (Ticked r n) = AskTick r
  ask_of (Began who dep t s) = AskBegin who dep
  ask_of (Updated t s o own op read u stamp) = AskUpdate t s o own op
  ask_of (Read t s o own read value) = AskRead t s o own
  ask_of (Prepared t s l w n) = AskPrepare t s l w
  ask_of (Decided t c) = AskDecide t c
  ask_of (Finished t c) = AskFinish t c
  ask_of (Aborted t own) = AskAbort t
  ask_of (Sent asked m) = AskMessage m.to asked
  ask_of (Took number m) = AskTake number m
  ask_of (Heard number q b stable) = AskHear number q b
  ask_of other = AskReport

  -- the event, or the one that was cut off
  abbrev pub attempt : Event E → Event E
  attempt (Cut what) = what
  attempt (Ticked r n) = Ticked r n
  attempt (Began who dep t s) = Began who dep t s
  attempt (Updated t s o own op read u stamp) = Updated t s o own op read u stamp
  attempt (Read t s o own read value) = Read t s o own read value
  attempt (Prepared t s l w n) = Prepared t s l w n
  attempt (Decided t c) = Decided t c
  attempt (Finished t c) = Finished t c
  attempt (Aborted t own) = Aborted t own
  attempt (Sent asked m) = Sent asked m
  attempt (Took number m) = Took number m
  attempt (Reported b) = Reported b
  attempt (Heard number q b stable) = Heard number q b stable
  attempt Crashed = Crashed
  attempt RestartCut = RestartCut
  attempt (Restarted n b named listed) = Restarted n b named listed
  attempt (Refused asked why) = Refused asked why
  attempt (Opened who) = Opened who

  abbrev pub is_prepare : Event E → TxId → Bool
  is_prepare (Prepared u s l w n) t = same_tx u t
  is_prepare other t = false

  abbrev pub is_decide : Event E → TxId → Bool
  is_decide (Decided u c) t = same_tx u t
  is_decide other t = false

  abbrev pub is_own_abort : Event E → TxId → Bool
  is_own_abort (Aborted u own) t = same_tx u t && own
  is_own_abort other t = false

  abbrev pub is_abort : Event E → TxId → Bool
  is_abort (Aborted u own) t = same_tx u t
  is_abort other t = false

  -- shows that t is decided
  abbrev pub shows_decided : Event E → TxId → Bool
  shows_decided (Decided u c) t = same_tx u t
  shows_decided (Restarted n b named listed) t = is_named named t
  shows_decided other t = false

  -- a prepare of t was asked of p; p answered it
  abbrev pub tried : List (Entry E) → TxId → PartId → Bool
  tried [] t p = false
  tried (e ∷ run) t p = (same_part e.at p && is_prepare (attempt e.event) t) || tried run t p

  abbrev pub voted : List (Entry E) → TxId → PartId → Bool
  voted [] t p = false
  voted (e ∷ run) t p = (same_part e.at p && is_prepare e.event t) || voted run t p

  abbrev pub decide_tried : List (Entry E) → TxId → Bool
  decide_tried [] t = false
  decide_tried (e ∷ run) t = is_decide (attempt e.event) t || decide_tried run t

  -- its session aborted it somewhere
  abbrev pub gave_up : List (Entry E) → TxId → Bool
  gave_up [] t = false
  gave_up (e ∷ run) t = is_own_abort (attempt e.event) t || gave_up run t

  abbrev pub was_aborted : List (Entry E) → TxId → PartId → Bool
  was_aborted [] t p = false
  was_aborted (e ∷ run) t p = (same_part e.at p && is_abort e.event t) || was_aborted run t p

  -- the history: t is in it
  abbrev pub is_decided : List (Entry E) → TxId → Bool
  is_decided [] t = false
  is_decided (e ∷ run) t = shows_decided e.event t || is_decided run t

  abbrev pub time_shown : Event E → ℕ
  time_shown (Prepared u s l w n) = n
  time_shown other = 0

  -- the greatest prepare time of t
  abbrev pub time_of : List (Entry E) → TxId → ℕ
  time_of [] t = 0
  time_of (e ∷ run) t = if is_prepare e.event t then max (time_shown e.event) (time_of run t) else time_of run t

  -- the clock value that an event shows, after `old`
  abbrev pub shown_after : ℕ → Event E → ℕ
  shown_after old (Ticked r n) = n
  shown_after old (Began who dep t s) = t.time
  shown_after old (Prepared t s l w n) = n
  shown_after old (Restarted n b named listed) = n
  shown_after old other = old

  -- the last clock value shown at p
  abbrev pub shown : List (Entry E) → PartId → ℕ
  shown [] p = 0
  shown (e ∷ run) p = if same_part e.at p then shown_after (shown run p) e.event else shown run p

  -- the clock value that a call which was cut off would have shown, since the last restart
  abbrev pub missed_after : ℕ → Event E → ℕ
  missed_after old (Cut (Ticked r n)) = max n old
  missed_after old (Cut (Began who dep t s)) = max t.time old
  missed_after old (Cut (Prepared t s l w n)) = max n old
  missed_after old (Restarted n b named listed) = 0
  missed_after old other = old

  abbrev pub missed : List (Entry E) → PartId → ℕ
  missed [] p = 0
  missed (e ∷ run) p = if same_part e.at p then missed_after (missed run p) e.event else missed run p

  -- this event stands in the run
  abbrev pub WasShown : List (Entry E) → PartId → Event E → Type 0
  WasShown [] p event = ⊥
  WasShown (e ∷ run) p event = ((e.at ≡ p) × (e.event ≡ event)) ⊎ WasShown run p event

  abbrev pub is_sent : Event E → Bool
  is_sent (Sent asked m) = true
  is_sent other = false

  -- the messages of each partition are numbered from 1, in the order of its steps, and so are its reports
  abbrev pub sent_count : List (Entry E) → PartId → ℕ
  sent_count [] p = 0
  sent_count (e ∷ run) p = if same_part e.at p && is_sent e.event then sent_count run p + 1 else sent_count run p

  abbrev pub is_report : Event E → Bool
  is_report (Reported b) = true
  is_report other = false

  abbrev pub report_count : List (Entry E) → PartId → ℕ
  report_count [] p = 0
  report_count (e ∷ run) p = if same_part e.at p && is_report e.event then report_count run p + 1 else report_count run p

  -- this event of p stands in the run, as the one with this number: one more than are counted of p before it
  abbrev pub WasNumbered : (List (Entry E) → PartId → ℕ) → List (Entry E) → ℕ → PartId → Event E → Type 0
  WasNumbered count [] number p event = ⊥
  WasNumbered count (e ∷ run) number p event = ((e.at ≡ p) × (e.event ≡ event) × (number ≡ count run p + 1)) ⊎ WasNumbered count run number p event

  -- each event has this property
  abbrev pub EventsAre : (PartId → Event E → Type 0) → List (Entry E) → Type 0
  EventsAre Q [] = ⊤
  EventsAre Q (e ∷ run) = Q e.at e.event × EventsAre Q run
