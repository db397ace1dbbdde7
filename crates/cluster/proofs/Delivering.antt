-- A message that is delivered and a report that is heard: calls of partitions that the script numbers anew.
use Rattle.std.proofs.Common.{Bool, ◌≡◌, ℕ, true, false, List, [], ◌∷◌, refl, sym, ap, ◌∙◌, subst, true≢false, Option, None, Some}
use Rattle.std.specs.Prelude.{not, ◌&&◌, ◌==◌, is_none, is_some, nat_le, Ok, Err}
use Rattle.crdt_core.specs.KindsOf.{Kinds}
use Rattle.world_model.specs.rules.Partition.{PartState, IsRefused}
use Rattle.std.proofs.lemmas.Bool.{eqb-true, and_parts, leb-true}
use Rattle.site_vector.specs.declared.ids.PartId.{PartId}
use Rattle.site_vector.specs.declared.ids.TxId.{TxId}
use Rattle.crdt_core.specs.declared.record.Message.{Message}
use Rattle.world_model.specs.declared.command.Command.{Command}
use Rattle.world_model.specs.declared.command.Command.TheVariants as command
use Rattle.world_model.specs.declared.step.Step.{Step}
use Rattle.world_model.specs.declared.step.Step.TheVariants as step
use Rattle.world_model.specs.commands.Answers.{answered}
use Rattle.world_model.specs.rules.Asking.{MayCall, asked_by}
use Rattle.world_model.specs.commands.Cluster.{sites_of}
use Rattle.world_model.specs.lines.Dependency.{IsOwnPast}
use Rattle.world_model.specs.rules.Event as event
use Rattle.world_model.specs.rules.Event.{Ask, AskMessage, AskReport, AskTake, AskHear, Event, Entry, Took, Heard, Refused, Cut, Refusal, ClockBehind, TxPending, StableBehind, ClockAtEnd, IsGone, HasGap, IsRepeat, IsDown, IsBadOp, HasNoRoom, IsDamaged, is_sent, is_report}
use Rattle.world_model.specs.rules.Lines.{call_of, call_asked, fault_shown, step_shown, tx_asked, number_asked}
use Rattle.world_model.specs.lines.Places.{IsPlace}
use Rattle.world_model.specs.commands.Run.{Run}
use Rattle.world_model.specs.commands.ScriptAnswers.{AnswersBy, IsAnswer, Bears, Replies}
use Rattle.world_model.specs.commands.ScriptCalls.{is_answer, asked_of, calls_of, numbered, for_message, for_report, own_of, own_report}
use Rattle.world_model.specs.commands.Messages.{message_of}
use Rattle.world_model.specs.commands.Meeting.{met, is_foreign}
use Rattle.world_model.specs.commands.Phases.{Phase, by_command}
use Rattle.world_model.proofs.Names.{off}
use Rattle.partition_core.specs.Answers.{cause}
use Rattle.partition_core.specs.declared.answers.Refusal as part
use Rattle.partition_core.specs.declared.answers.Refusal.TheVariants as answer
use Rattle.partition_core.specs.declared.durable.DurableError.{DurableError}
use Rattle.partition_core.specs.declared.durable.DurableError.TheVariants as call
use Rattle.disk_core.specs.States.{DiskState}
use Rattle.txn_session.specs.Calls.{called, entries}
use Rattle.site_partitions.specs.Reaches.{Types, MayAsk, Reaches}
use Rattle.cluster.specs.declared.post.Note.{Note}
use Rattle.site_partitions.specs.Answers.{Any, Asks, Calls, GoesOn}
use Rattle.cluster.specs.Built.{is_built}
use Rattle.cluster.specs.Faults.{TellsFault, ShowsFault, ShowFaults}
use Rattle.site_partitions.specs.Held.{Held, holds_site, holds_part}
use Rattle.cluster.specs.Same.{SameCluster}
use Rattle.cluster.specs.Post.{WholeState, HasPost, IsLetter, MailAs, IsNote, NoteAs, item_at}
use Rattle.cluster.specs.Reached.{Applies, FaultsShown, IsReached, Reached, ReachedWhole}
use Rattle.cluster.proofs.FusedRuns.{is_of_restart}
use Rattle.cluster.specs.Sees.{Sees, FailedAs, refusal_line}
use Rattle.cluster.proofs.Clocks.{part_in}
use Rattle.cluster.proofs.Dropping.{turned_down, lacks_mail, lacks_notice}
use Rattle.cluster.proofs.Keeping.{is_postal, keeps_line, grows_one, post_on}
use Rattle.cluster.proofs.Meets.{all_met, first_at, none_due}
use Rattle.partition_core.specs.Moments.{Spends}
use Rattle.site_partitions.specs.Moves.{Moves}
use Rattle.cluster.proofs.Posting.{IsPosted, Posted, posted}
use Rattle.cluster.proofs.Failing.{spends_of, failed_by}
use Rattle.cluster.proofs.Rooms.{cause_has_room, rooms_on, rooms_more}
use Rattle.cluster.proofs.Faulted.{same_of, shows_told}
use Rattle.cluster.proofs.Seeing.{is_told, told_of, line_tells}
use Rattle.cluster.proofs.Turning.{IsSilentFor, has_other_lines}

-- a refusal of a take names no transaction
abbrev no_tx : TxId
no_tx = record { site = 0; part = 0; time = 0 }

took_posted : (k number hi : ℕ) → IsPosted (command.Deliver k) (step.Took number hi)
took_posted k number hi = record { alone = refl; answer = refl; cluster = refl; sites = λ n. refl; parts = λ n. refl; site = λ who old. refl; count = λ n. refl; phase = λ parts who old. refl }

heard_posted : (k number : ℕ) (at p : PartId) (stable : List ℕ) → IsPosted (command.Hear k at) (step.Heard number p stable)
heard_posted k number at p stable = record { alone = refl; answer = refl; cluster = refl; sites = λ n. refl; parts = λ n. refl; site = λ who old. refl; count = λ n. refl; phase = λ parts who old. refl }

refused_posted : {E : Type 0} (ask : Ask E) (k : ℕ) (at : PartId) (number : ℕ) (why : Refusal) → is_told (Refused ask why) ≡ true → IsPosted (command.Deliver k) (refusal_line at no_tx number why)
refused_posted ask k at number IsBadOp h = off h
refused_posted ask k at number IsDown h = record { alone = refl; answer = refl; cluster = refl; sites = λ n. refl; parts = λ n. refl; site = λ who old. refl; count = λ n. refl; phase = λ parts who old. refl }
refused_posted ask k at number (HasNoRoom n) h = record { alone = refl; answer = refl; cluster = refl; sites = λ n. refl; parts = λ n. refl; site = λ who old. refl; count = λ n. refl; phase = λ parts who old. refl }
refused_posted ask k at number (IsDamaged n) h = record { alone = refl; answer = refl; cluster = refl; sites = λ n. refl; parts = λ n. refl; site = λ who old. refl; count = λ n. refl; phase = λ parts who old. refl }
refused_posted ask k at number (ClockBehind n) h = record { alone = refl; answer = refl; cluster = refl; sites = λ n. refl; parts = λ n. refl; site = λ who old. refl; count = λ n. refl; phase = λ parts who old. refl }
refused_posted ask k at number (TxPending t n) h = record { alone = refl; answer = refl; cluster = refl; sites = λ n. refl; parts = λ n. refl; site = λ who old. refl; count = λ n. refl; phase = λ parts who old. refl }
refused_posted ask k at number (StableBehind j n) h = record { alone = refl; answer = refl; cluster = refl; sites = λ n. refl; parts = λ n. refl; site = λ who old. refl; count = λ n. refl; phase = λ parts who old. refl }
refused_posted ask k at number ClockAtEnd h = record { alone = refl; answer = refl; cluster = refl; sites = λ n. refl; parts = λ n. refl; site = λ who old. refl; count = λ n. refl; phase = λ parts who old. refl }
refused_posted ask k at number IsGone h = record { alone = refl; answer = refl; cluster = refl; sites = λ n. refl; parts = λ n. refl; site = λ who old. refl; count = λ n. refl; phase = λ parts who old. refl }
refused_posted ask k at number (HasGap n) h = record { alone = refl; answer = refl; cluster = refl; sites = λ n. refl; parts = λ n. refl; site = λ who old. refl; count = λ n. refl; phase = λ parts who old. refl }
refused_posted ask k at number (IsRepeat n) h = record { alone = refl; answer = refl; cluster = refl; sites = λ n. refl; parts = λ n. refl; site = λ who old. refl; count = λ n. refl; phase = λ parts who old. refl }

-- a line that no number is in, of a disk or a partition that is down
abbrev pub is_failing : Step → Bool
is_failing (step.Down p) = true
is_failing (step.Disk p) = true
is_failing (step.Full room) = true
is_failing other = false

-- a command of messages and reports that asks a partition
abbrev pub is_asking : Command → Bool
is_asking (command.Send p site from) = true
is_asking (command.Deliver number) = true
is_asking (command.Report p) = true
is_asking (command.Hear number p) = true
is_asking other = false

failing_by : (cmd : Command) → is_asking cmd ≡ true → (parts : ℕ) (who : List ℕ) (old : Phase) (s : Step) → by_command parts who old (Some cmd) s ≡ old
failing_by (command.Commit name k) h parts who old s = off h
failing_by (command.Abort name) h parts who old s = off h
failing_by other h parts who old s = refl

failing_alone : (cmd : Command) → is_asking cmd ≡ true → has_other_lines cmd ≡ false
failing_alone (command.Cluster sites parts) h = off h
failing_alone (command.Expire p t) h = off h
failing_alone (command.Settle p) h = off h
failing_alone other h = refl

pub failing_posted : (cmd : Command) → is_asking cmd ≡ true → (s : Step) → is_failing s ≡ true → IsPosted cmd s
failing_posted cmd k (step.Down p) h = record { alone = failing_alone cmd k; answer = refl; cluster = refl; sites = λ n. refl; parts = λ n. refl; site = λ who old. refl; count = λ n. refl; phase = λ parts who old. failing_by cmd k parts who old _ }
failing_posted cmd k (step.Disk p) h = record { alone = failing_alone cmd k; answer = refl; cluster = refl; sites = λ n. refl; parts = λ n. refl; site = λ who old. refl; count = λ n. refl; phase = λ parts who old. failing_by cmd k parts who old _ }
failing_posted cmd k (step.Full room) h = record { alone = failing_alone cmd k; answer = refl; cluster = refl; sites = λ n. refl; parts = λ n. refl; site = λ who old. refl; count = λ n. refl; phase = λ parts who old. failing_by cmd k parts who old _ }
failing_posted cmd k other h = off h

failing_replies : (run : Run) (cmd : Command) → is_asking cmd ≡ true → (s : Step) → is_failing s ≡ true → Replies run cmd (s ∷ [])
failing_replies run (command.Send p site from) h (step.Down q) k = (_, refl, refl, tt)
failing_replies run (command.Send p site from) h (step.Disk q) k = (_, refl, refl, tt)
failing_replies run (command.Send p site from) h (step.Full room) k = (_, refl, refl, tt)
failing_replies run (command.Send p site from) h other k = off k
failing_replies run (command.Deliver number) h (step.Down q) k = (_, refl, refl, tt)
failing_replies run (command.Deliver number) h (step.Disk q) k = (_, refl, refl, tt)
failing_replies run (command.Deliver number) h (step.Full room) k = (_, refl, refl, tt)
failing_replies run (command.Deliver number) h other k = off k
failing_replies run (command.Report p) h (step.Down q) k = (_, refl, refl, tt)
failing_replies run (command.Report p) h (step.Disk q) k = (_, refl, refl, tt)
failing_replies run (command.Report p) h (step.Full room) k = (_, refl, refl, tt)
failing_replies run (command.Report p) h other k = off k
failing_replies run (command.Hear number p) h (step.Down q) k = (_, refl, refl, tt)
failing_replies run (command.Hear number p) h (step.Disk q) k = (_, refl, refl, tt)
failing_replies run (command.Hear number p) h (step.Full room) k = (_, refl, refl, tt)
failing_replies run (command.Hear number p) h other k = off k
failing_replies run other h s k = off h

failing_numbered : (run : Run) (s : Step) → is_failing s ≡ true → numbered run s ≡ s
failing_numbered run (step.Down q) h = refl
failing_numbered run (step.Disk q) h = refl
failing_numbered run (step.Full room) h = refl
failing_numbered run other h = off h

failing_plain : (s : Step) → is_failing s ≡ true → is_postal s ≡ false
failing_plain (step.Down q) h = refl
failing_plain (step.Disk q) h = refl
failing_plain (step.Full room) h = refl
failing_plain other h = off h

refused_up : {E : Type 0} (ask : Ask E) (at : PartId) (number : ℕ) (why : Refusal) → is_told (Refused ask why) ≡ true → is_answer (refusal_line at no_tx number why) ≡ true
refused_up ask at number IsBadOp h = off h
refused_up ask at number other h = refl

-- what partitions refuse so is no fault
refused_quiet : {E D : Type 0} (state : D → DiskState) (run : Run) (old new : Held E D) (at : PartId) (number : ℕ) (why : part.Refusal) → ShowsFault state run old new (refusal_line at no_tx number (cause why))
refused_quiet state run old new at number answer.BadOp = tt
refused_quiet state run old new at number other = tt

refused_tells : {E D : Type 0} (state : D → DiskState) (old new : Held E D) (at : PartId) (number : ℕ) (why : part.Refusal) → TellsFault state old new at (refusal_line at no_tx number (cause why))
refused_tells state old new at number answer.BadOp = tt
refused_tells state old new at number other = tt

refused_plain : (at : PartId) (number : ℕ) (why : Refusal) → is_postal (refusal_line at no_tx number why) ≡ false
refused_plain at number IsDown = refl
refused_plain at number other = refl

refused_bears : (run : Run) (at : PartId) (number : ℕ) (why : Refusal) → Bears run (command.Deliver number) (refusal_line at no_tx number why)
refused_bears run at number (HasGap n) = refl
refused_bears run at number (IsRepeat n) = refl
refused_bears run at number IsDown = tt
refused_bears run at number other = tt

refused_numbered : {E : Type 0} (run : Run) (events : List (Entry E)) (at : PartId) (number own : ℕ) (m : Message E) (why : Refusal) → own_of (message_of run number) ≡ own → numbered run (refusal_line at no_tx number why) ≡ step_shown events at (Refused (AskTake own m) why)
refused_numbered run events at number own m (HasGap n) h = ap (λ o. step.Gap o n) h
refused_numbered run events at number own m (IsRepeat n) h = ap (λ o. step.Dup o n) h
refused_numbered run events at number own m IsDown h = refl
refused_numbered run events at number own m other h = refl

pub place_of_part : {E D : Type 0} (c : Held E D) (p : PartId) → holds_part c p ≡ true → IsPlace c.sites c.parts p
place_of_part c p h =
    let x = and_parts (holds_site c p.site) _ h in
    let site = and_parts (nat_le 1 p.site) _ x.0 in
    let part = and_parts (nat_le 1 p.part) _ x.1 in
    record { least_site = leb-true 1 p.site site.0; most_site = leb-true p.site c.sites site.1; least_part = leb-true 1 p.part part.0; most_part = leb-true p.part c.parts part.1 }

-- what asks for a message, a report, or hears one is refused for no cause of the rules
abbrev pub IsFree : {S E : Type 0} → Kinds S E → Ask E → Type 0
IsFree {S} {E} kinds ask = (sites parts : ℕ) (id : PartId) (p : PartState E) (why : part.Refusal) → IsRefused kinds sites parts id p ask (cause why) → ⊥

pub free_message : {S E : Type 0} (kinds : Kinds S E) (to : ℕ) (from : Option ℕ) → IsFree kinds (AskMessage to from)
free_message kinds to from sites parts id p answer.BadOp x = x.1
free_message kinds to from sites parts id p other x = x.1

pub free_report : {S E : Type 0} (kinds : Kinds S E) → IsFree kinds AskReport
free_report kinds sites parts id p answer.BadOp x = x.1
free_report kinds sites parts id p other x = x.1

pub free_hear : {S E : Type 0} (kinds : Kinds S E) (k q : ℕ) (b : List ℕ) → IsFree kinds (AskHear k q b)
free_hear kinds k q b sites parts id p answer.BadOp x = x.1
free_hear kinds k q b sites parts id p other x = x.1

pub never_refused : {S E D : Type 0} (types : Types S E D) (old held : Held E D) (at : PartId) (ask : Ask E) (why : part.Refusal) → IsFree types.kinds ask → GoesOn types old held (Asks types old Any at ask) at ask (λ e. e ≡ Refused ask (cause why)) → (run : List (Entry E)) → Reaches types old run → MayCall old.sites old.parts run at ask → ⊥
never_refused types old held at ask why free g run r may =
    let x = (g.goes run r (may, tt)).0 in
    let reached : Reaches types held ((record { at = at; event = Refused ask (cause why) }) ∷ run) = subst (λ e. Reaches types held ((record { at = at; event = e }) ∷ run)) x.shows x.reached in
    free held.sites held.parts at (reached.is_run.0 at) why reached.is_run.2.step.0

module _ {S E D : Type 0} (types : Types S E D) (w : WholeState E D) where
  abbrev after : Held E D → WholeState E D
  after held = record { live = record { sites = held; sessions = w.live.sessions }; post = w.post }

  -- a call that makes no message and no report leaves what is kept as it was
  pub called_on : (cmd : Command) (held : Held E D) (at : PartId) (e : Event E) (s : Step) (line : ℕ) (run : Run) (r : ReachedWhole types w run) → SameCluster types.state w.live.sites held → Sees types held (called 0 at e ∷ r.live.calls) → IsPosted cmd s → numbered run s ≡ step_shown (entries r.live.calls) at e → asked_of (calls_of run) run cmd ≡ record { at = at; call = call_of e }
      → ((who : List ℕ) → IsSilentFor (entries r.live.calls) who e) → IsOwnPast (sites_of run) (calls_of run) (call_of e) → is_postal s ≡ false → is_sent e ≡ false → is_report e ≡ false
      → (m : Moves types.state w.live.sites held at) → Spends types.kinds types.codec types.state m.before m.after (r.live.sees.reached.state at) e → is_of_restart e ≡ false → TellsFault types.state w.live.sites held at s
      → ReachedWhole types (after held) ((record { number = line; command = Some cmd; step = s }) ∷ run)
  called_on cmd held at e s line run r size sees told numbers placed silent own plain unsent unreported m spends no_restart tells =
      let next : Run = (record { number = line; command = Some cmd; step = s }) ∷ run in
      let x : Posted types w.live run r.live line cmd at e held size sees s told numbers placed silent own = posted types w.live run r.live line cmd at e held size sees s told numbers placed silent own m spends no_restart tells in
      let kept : HasPost w.live.sites.sites w.live.sites.parts next (entries (called 0 at e ∷ r.live.calls)) w.post = post_on w.live.sites.sites w.live.sites.parts run next r.live.calls (called 0 at e ∷ r.live.calls) w.post (keeps_line line (Some cmd) s run plain) (grows_one (called 0 at e) r.live.calls unsent unreported) r.post in
      record {
        live = x.reached;
        post = subst (λ cs. HasPost held.sites held.parts next (entries cs) w.post) (sym x.calls_are) (subst (λ n. HasPost n held.parts next (entries (called 0 at e ∷ r.live.calls)) w.post) (sym size.sites_are) (subst (λ n. HasPost w.live.sites.sites n next (entries (called 0 at e ∷ r.live.calls)) w.post) (sym size.parts_are) kept));
      }

  -- what the event of such a failure owes the run
  pub record IsStruck (events : List (Entry E)) (ask : Ask E) (e : Event E) : Type 0 where
    pub call : call_of e ≡ call_asked ask
    pub silent : (who : List ℕ) → IsSilentFor events who e
    pub unsent : is_sent e ≡ false
    pub unreported : is_report e ≡ false
    pub called : is_of_restart e ≡ false

  -- a call of messages or reports that fails
  pub struck : {A : Type 0} (held : Held E D) (cmd : Command) → is_asking cmd ≡ true → (at : PartId) (ask : Ask E) (Shows : A → Event E → Type 0) (error : DurableError) (s : Step) (steps : List Step) → steps ≡ s ∷ [] → is_failing s ≡ true → FailedAs {X = Unit {0}} at (tx_asked ask) (number_asked ask) (step.Disk at) error (Ok s) → Calls types w.live.sites held Any at ask Shows (Err error)
      → (line : ℕ) (run : Run) (r : ReachedWhole types w run) → MayCall w.live.sites.sites w.live.sites.parts (entries r.live.calls) at ask → met is_built run cmd ≡ None → asked_of (calls_of run) run cmd ≡ record { at = at; call = call_asked ask } → IsOwnPast (sites_of run) (calls_of run) (call_asked ask)
      → ((x : A) (what : Event E) → Shows x what → call_of (Cut what) ≡ call_asked ask) → ((x : A) (what : Event E) → Shows x what → (who : List ℕ) → IsSilentFor (entries r.live.calls) who (Cut what)) → ((x : A) (what : Event E) → Shows x what → (step.Disk at ≡ fault_shown at what) × (asked_by what ≡ ask))
      → IsAnswer is_built run cmd steps × Reached types (Some (after held)) (answered line (Some cmd) steps run) × FaultsShown types (Some w) run steps (Some (after held))
  struck held cmd asking at ask Shows error s steps is failing f g line run r may unmet placed past calls silent faults =
      let x = failed_by types w.live.sites held (Asks types w.live.sites Any at ask) at ask Shows (step.Disk at) (entries r.live.calls) r.live.sees.reached (may, tt) (IsStruck (entries r.live.calls) ask) (λ why reached. record { call = refl; silent = λ who. tt; unsent = refl; unreported = refl; called = refl }) (λ a what k reached. record { call = calls a what k; silent = silent a what k; unsent = refl; unreported = refl; called = refl }) faults error s g f in
      let seen : Sees types held (called 0 at x.event ∷ r.live.calls) = record { reached = x.reached; one_caller = (refl, r.live.sees.one_caller); rooms = (x.room, rooms_on types w.live.sites held x.same (entries r.live.calls) r.live.sees.rooms) } in
      let tells = line_tells types {P = Unit {0}} w.live.sites held Any at ask tt None (Unit {0}) Shows (step.Disk at) (λ rose. (refl, rose)) error s g f in
      subst (λ l. IsAnswer is_built run cmd l × Reached types (Some (after held)) (answered line (Some cmd) l run) × FaultsShown types (Some w) run l (Some (after held))) (sym is) (
        subst (AnswersBy run cmd (s ∷ [])) (sym unmet) (failing_replies run cmd asking s failing),
        called_on cmd held at x.event s line run r x.same seen (failing_posted cmd asking s failing) (failing_numbered run s failing ∙ x.shows) (placed ∙ ap (λ k. record { at = at; call = k }) (sym x.property.call)) x.property.silent (subst (IsOwnPast (sites_of run) (calls_of run)) (sym x.property.call) past) (failing_plain s failing) x.property.unsent x.property.unreported x.moves x.spends x.property.called tells,
        (x.same, (shows_told types.state run w.live.sites held at s tells (λ t k. absurd (true≢false (sym failing ∙ ap is_failing k))), tt)),
      )

  module _ (number : ℕ) (m : Message E) (there : item_at w.post.letters number ≡ Some m) where
    abbrev pub twin_there : PartId
    twin_there = record { site = m.to; part = m.part }

    letter : (run : Run) (r : ReachedWhole types w run) → IsLetter w.live.sites.sites w.live.sites.parts run (entries r.live.calls) number m
    letter run r = subst (λ o. MailAs w.live.sites.sites w.live.sites.parts run (entries r.live.calls) number o) there (r.post.mail number)

    may : (run : Run) (r : ReachedWhole types w run) → MayCall w.live.sites.sites w.live.sites.parts (entries r.live.calls) (record { site = m.to; part = m.part }) (AskTake (letter run r).own m)
    may run r = let l = letter run r in record { from = l.other; to = refl; part = refl; asked = l.asked; shown = l.shown }

    -- so it may be taken, as the message with its number among its sender's own
    pub may_take : IsReached types (Some w) → (n : ℕ) × MayAsk types w.live.sites (record { site = m.to; part = m.part }) (AskTake n m)
    may_take r = ((letter r.run r.reached).own, record { place = (letter r.run r.reached).place; run = entries r.reached.live.calls; reached = r.reached.live.sees.reached; allowed = may r.run r.reached })

    pub delivered : (held : Held E D) (steps : List Step) → steps ≡ step.Took number m.hi ∷ [] → ((n : ℕ) → GoesOn types w.live.sites held (Asks types w.live.sites Any (record { site = m.to; part = m.part }) (AskTake n m)) (record { site = m.to; part = m.part }) (AskTake n m) (λ e. e ≡ Took n m)) → Applies types (Some w) (command.Deliver number) steps (Some (record { live = record { sites = held; sessions = w.live.sessions }; post = w.post }))
    delivered held steps is g line run r =
        let at : PartId = record { site = m.to; part = m.part } in
        let l = letter run r in
        let own : ℕ = l.own in
        let x = ((g own).goes (entries r.live.calls) r.live.sees.reached (may run r, tt)).0 in
        let reached : Reaches types held ((record { at = at; event = Took own m }) ∷ entries r.live.calls) = subst (λ e. Reaches types held ((record { at = at; event = e }) ∷ entries r.live.calls)) x.shows x.reached in
        let size : SameCluster types.state w.live.sites held = same_of types.state w.live.sites held _ (g own).moves in
        let s : Step = step.Took number m.hi in
        subst (λ steps. IsAnswer is_built run (command.Deliver number) steps × ReachedWhole types (after held) (answered line (Some (command.Deliver number)) steps run) × (SameCluster types.state w.live.sites held × ShowFaults types.state run w.live.sites held steps)) (sym is) (
          subst (AnswersBy run (command.Deliver number) (step.Took number m.hi ∷ [])) (sym (none_due (all_met run (command.Deliver number)) (refl, (ap not r.live.has, (ap is_none l.letter, tt))))) (s, refl, refl, refl),
          called_on (command.Deliver number) held at (Took own m) s line run r size (record { reached = reached; one_caller = (refl, r.live.sees.one_caller); rooms = rooms_more types w.live.sites held size (entries r.live.calls) at (Took own m) refl r.live.sees.rooms }) (took_posted number number m.hi)
              (ap (λ o. step.Took (own_of o) m.hi) l.letter) (ap for_message l.letter) (λ who. tt) tt refl refl refl
              (g own).moves (spends_of types w.live.sites held (Asks types w.live.sites Any at (AskTake own m)) at (AskTake own m) (Took own m) (g own) (entries r.live.calls) r.live.sees.reached (may run r, tt)) refl tt,
          (size, (tt, tt)),
        )

    pub not_taken : (held : Held E D) (why : part.Refusal) (steps : List Step) → steps ≡ refusal_line (record { site = m.to; part = m.part }) (record { site = 0; part = 0; time = 0 }) number (cause why) ∷ [] → ((n : ℕ) → GoesOn types w.live.sites held (Asks types w.live.sites Any (record { site = m.to; part = m.part }) (AskTake n m)) (record { site = m.to; part = m.part }) (AskTake n m) (λ e. e ≡ Refused (AskTake n m) (cause why))) → Applies types (Some w) (command.Deliver number) steps (Some (record { live = record { sites = held; sessions = w.live.sessions }; post = w.post }))
    not_taken held why steps is g line run r =
        let at : PartId = record { site = m.to; part = m.part } in
        let l = letter run r in
        let own : ℕ = l.own in
        let e : Event E = Refused (AskTake own m) (cause why) in
        let x = ((g own).goes (entries r.live.calls) r.live.sees.reached (may run r, tt)).0 in
        let reached : Reaches types held ((record { at = at; event = Refused (AskTake own m) (cause why) }) ∷ entries r.live.calls) = subst (λ e. Reaches types held ((record { at = at; event = e }) ∷ entries r.live.calls)) x.shows x.reached in
        let size : SameCluster types.state w.live.sites held = same_of types.state w.live.sites held _ (g own).moves in
        let plain : is_told (Refused (AskTake own m) (cause why)) ≡ true = told_of types held (record { at = at; event = Refused (AskTake own m) (cause why) }) (entries r.live.calls) reached in
        let up = refused_up (AskTake own m) at number (cause why) plain in
        let s : Step = refusal_line at no_tx number (cause why) in
        subst (λ steps. IsAnswer is_built run (command.Deliver number) steps × ReachedWhole types (after held) (answered line (Some (command.Deliver number)) steps run) × (SameCluster types.state w.live.sites held × ShowFaults types.state run w.live.sites held steps)) (sym is) (
          subst (AnswersBy run (command.Deliver number) (refusal_line at no_tx number (cause why) ∷ [])) (sym (none_due (all_met run (command.Deliver number)) (refl, (ap not r.live.has, (ap is_none l.letter, tt))))) (s, refl, ap (λ b. b && true) up, refused_bears run at number (cause why)),
          called_on (command.Deliver number) held at (Refused (AskTake own m) (cause why)) s line run r size (record { reached = reached; one_caller = (refl, r.live.sees.one_caller); rooms = rooms_more types w.live.sites held size (entries r.live.calls) at (Refused (AskTake own m) (cause why)) (cause_has_room (AskTake own m) why) r.live.sees.rooms }) (refused_posted (AskTake own m) number at number (cause why) plain)
              (refused_numbered run (entries r.live.calls) at number own m (cause why) (ap own_of l.letter)) (ap for_message l.letter) (λ who. tt) tt (refused_plain at number (cause why)) refl refl
              (g own).moves (spends_of types w.live.sites held (Asks types w.live.sites Any at (AskTake own m)) at (AskTake own m) (Refused (AskTake own m) (cause why)) (g own) (entries r.live.calls) r.live.sees.reached (may run r, tt)) refl (refused_tells types.state w.live.sites held at number why),
          (size, (refused_quiet types.state run w.live.sites held at number why, tt)),
        )

    -- one that fails, with a line that no number is in
    pub struck_take : (held : Held E D) (error : DurableError) (s : Step) (steps : List Step) → steps ≡ s ∷ [] → is_failing s ≡ true → ((n : ℕ) → FailedAs {X = Unit {0}} (record { site = m.to; part = m.part }) no_tx n (step.Disk (record { site = m.to; part = m.part })) error (Ok s)) → ((n : ℕ) → Calls types w.live.sites held Any (record { site = m.to; part = m.part }) (AskTake n m) (λ (u : Unit {0}) e. e ≡ Took n m) (Err error)) → Applies types (Some w) (command.Deliver number) steps (Some (record { live = record { sites = held; sessions = w.live.sessions }; post = w.post }))
    struck_take held error s steps is failing f g line run r =
        let l = letter run r in
        struck held (command.Deliver number) refl (record { site = m.to; part = m.part }) (AskTake l.own m) (λ (u : Unit {0}) e. e ≡ Took l.own m) error s steps is failing (f l.own) (g l.own) line run r (may run r)
        (none_due (all_met run (command.Deliver number)) (refl, (ap not r.live.has, (ap is_none l.letter, tt))))
        (ap for_message l.letter) tt (λ u what k. subst (λ e. call_of (Cut e) ≡ call_asked (AskTake l.own m)) (sym k) refl) (λ u what k. subst (λ e. (who : List ℕ) → IsSilentFor (entries r.live.calls) who (Cut e)) (sym k) (λ who. tt)) (λ u what k. subst (λ e. (step.Disk (record { site = m.to; part = m.part }) ≡ fault_shown (record { site = m.to; part = m.part }) e) × (asked_by e ≡ AskTake l.own m)) (sym k) (refl, refl))

    pub refused_take : (X : Type 0) (held : Held E D) (error : DurableError) (s : Step) (steps : List Step) → steps ≡ s ∷ [] → FailedAs {X = X} (record { site = m.to; part = m.part }) (record { site = 0; part = 0; time = 0 }) number (step.Disk (record { site = m.to; part = m.part })) error (Ok s) → ((n : ℕ) → Calls types w.live.sites held Any (record { site = m.to; part = m.part }) (AskTake n m) (λ (u : Unit {0}) e. e ≡ Took n m) (Err error)) → Applies types (Some w) (command.Deliver number) steps (Some (record { live = record { sites = held; sessions = w.live.sessions }; post = w.post }))
    refused_take X held call.NoMemory s steps is f g = absurd f
    refused_take X held call.Down s steps is f g = struck_take held call.Down s steps is (ap is_failing f) (λ n. f) g
    refused_take X held call.Disk s steps is f g = struck_take held call.Disk s steps is (ap is_failing f) (λ n. f) g
    refused_take X held (call.Full room) s steps is f g = struck_take held (call.Full room) s steps is (ap is_failing f) (λ n. f) g
    refused_take X held (call.Refused why) s steps is f g = not_taken held why steps (subst (λ (x : Step). steps ≡ x ∷ []) f is) g

  module _ (number : ℕ) (at : PartId) (n : Note) (there : item_at w.post.notes number ≡ Some n) (same : (n.from.site == at.site) ≡ true) where
    noted : (run : Run) (r : ReachedWhole types w run) → IsNote w.live.sites.sites w.live.sites.parts run (entries r.live.calls) number n
    noted run r = subst (λ o. NoteAs w.live.sites.sites w.live.sites.parts run (entries r.live.calls) number o) there (r.post.notes number)

    from_here : n.from ≡ record { site = at.site; part = n.from.part }
    from_here = ap (λ d. record { site = d; part = n.from.part }) (eqb-true n.from.site at.site same)

    may_listen : (run : Run) (r : ReachedWhole types w run) → MayCall w.live.sites.sites w.live.sites.parts (entries r.live.calls) at (AskHear (noted run r).own n.from.part n.bounds)
    may_listen run r = let l = noted run r in record { least = l.place.least_part; most = l.place.most_part; shown = subst (λ q. event.WasNumbered event.report_count (entries r.live.calls) l.own q (event.Reported n.bounds)) from_here l.shown }

    pub may_hear : holds_part w.live.sites at ≡ true → IsReached types (Some w) → (k : ℕ) × MayAsk types w.live.sites at (AskHear k n.from.part n.bounds)
    may_hear has r = ((noted r.run r.reached).own, record { place = place_of_part w.live.sites at has; run = entries r.reached.live.calls; reached = r.reached.live.sees.reached; allowed = may_listen r.run r.reached })

    pub heard : (held : Held E D) (stable : List ℕ) (steps : List Step) → steps ≡ step.Heard number at stable ∷ [] → holds_part w.live.sites at ≡ true → ((k : ℕ) → GoesOn types w.live.sites held (Asks types w.live.sites Any at (AskHear k n.from.part n.bounds)) at (AskHear k n.from.part n.bounds) (λ e. e ≡ Heard k n.from.part n.bounds stable)) → Applies types (Some w) (command.Hear number at) steps (Some (record { live = record { sites = held; sessions = w.live.sessions }; post = w.post }))
    heard held stable steps is has g line run r =
        let l = noted run r in
        let own : ℕ = l.own in
        let x = ((g own).goes (entries r.live.calls) r.live.sees.reached (may_listen run r, tt)).0 in
        let reached : Reaches types held ((record { at = at; event = Heard own n.from.part n.bounds stable }) ∷ entries r.live.calls) = subst (λ e. Reaches types held ((record { at = at; event = e }) ∷ entries r.live.calls)) x.shows x.reached in
        let size : SameCluster types.state w.live.sites held = same_of types.state w.live.sites held _ (g own).moves in
        let s : Step = step.Heard number at stable in
        subst (λ steps. IsAnswer is_built run (command.Hear number at) steps × ReachedWhole types (after held) (answered line (Some (command.Hear number at)) steps run) × (SameCluster types.state w.live.sites held × ShowFaults types.state run w.live.sites held steps)) (sym is) (
          subst (AnswersBy run (command.Hear number at) (step.Heard number at stable ∷ [])) (sym (none_due (all_met run (command.Hear number at)) (refl, (ap not r.live.has, (ap not (sym (part_in types w.live run r.live at) ∙ has), (ap is_none l.notice, (ap (λ o. is_foreign o at) l.notice ∙ ap not same, tt))))))) (s, refl, refl, refl),
          called_on (command.Hear number at) held at (Heard own n.from.part n.bounds stable) s line run r size (record { reached = reached; one_caller = (refl, r.live.sees.one_caller); rooms = rooms_more types w.live.sites held size (entries r.live.calls) at (Heard own n.from.part n.bounds stable) refl r.live.sees.rooms }) (heard_posted number number at at stable)
              (ap (λ o. step.Heard (own_report o) at stable) l.notice) (ap (for_report at) l.notice) (λ who. tt) tt refl refl refl
              (g own).moves (spends_of types w.live.sites held (Asks types w.live.sites Any at (AskHear own n.from.part n.bounds)) at (AskHear own n.from.part n.bounds) (Heard own n.from.part n.bounds stable) (g own) (entries r.live.calls) r.live.sees.reached (may_listen run r, tt)) refl tt,
          (size, (tt, tt)),
        )

    -- a hear that fails
    pub hear_fails : (held : Held E D) (error : DurableError) (s : Step) (steps : List Step) → steps ≡ s ∷ [] → is_failing s ≡ true → holds_part w.live.sites at ≡ true → FailedAs {X = Unit {0}} at no_tx 0 (step.Disk at) error (Ok s) → ((k : ℕ) → Calls types w.live.sites held Any at (AskHear k n.from.part n.bounds) (λ (stable : List ℕ) e. e ≡ Heard k n.from.part n.bounds stable) (Err error)) → Applies types (Some w) (command.Hear number at) steps (Some (record { live = record { sites = held; sessions = w.live.sessions }; post = w.post }))
    hear_fails held error s steps is failing has f g line run r =
        let l = noted run r in
        struck held (command.Hear number at) refl at (AskHear l.own n.from.part n.bounds) (λ (stable : List ℕ) e. e ≡ Heard l.own n.from.part n.bounds stable) error s steps is failing f (g l.own) line run r (may_listen run r)
        (none_due (all_met run (command.Hear number at)) (refl, (ap not r.live.has, (ap not (sym (part_in types w.live run r.live at) ∙ has), (ap is_none l.notice, (ap (λ o. is_foreign o at) l.notice ∙ ap not same, tt))))))
        (ap (for_report at) l.notice) tt (λ stable what k. subst (λ e. call_of (Cut e) ≡ call_asked {E = E} (AskHear l.own n.from.part n.bounds)) (sym k) refl) (λ stable what k. subst (λ e. (who : List ℕ) → IsSilentFor (entries r.live.calls) who (Cut e)) (sym k) (λ who. tt)) (λ stable what k. subst (λ e. (step.Disk at ≡ fault_shown at e) × (asked_by e ≡ AskHear l.own n.from.part n.bounds)) (sym k) (refl, refl))

    pub hear_refused : (held : Held E D) (error : DurableError) (s : Step) (steps : List Step) → steps ≡ s ∷ [] → holds_part w.live.sites at ≡ true → FailedAs {X = Unit {0}} at no_tx 0 (step.Disk at) error (Ok s) → ((k : ℕ) → Calls types w.live.sites held Any at (AskHear k n.from.part n.bounds) (λ (stable : List ℕ) e. e ≡ Heard k n.from.part n.bounds stable) (Err error)) → Applies types (Some w) (command.Hear number at) steps (Some (record { live = record { sites = held; sessions = w.live.sessions }; post = w.post }))
    hear_refused held call.NoMemory s steps is has f g = absurd f
    hear_refused held call.Down s steps is has f g = hear_fails held call.Down s steps is (ap is_failing f) has f g
    hear_refused held call.Disk s steps is has f g = hear_fails held call.Disk s steps is (ap is_failing f) has f g
    hear_refused held (call.Full room) s steps is has f g = hear_fails held (call.Full room) s steps is (ap is_failing f) has f g
    hear_refused held (call.Refused why) s steps is has f g = λ line run r. let l = noted run r in absurd (never_refused types w.live.sites held at (AskHear l.own n.from.part n.bounds) why (free_hear types.kinds l.own n.from.part n.bounds) (g l.own) (entries r.live.calls) r.live.sees.reached (may_listen run r))

  module _ (number : ℕ) where
    pub deliver_absent : (steps : List Step) → steps ≡ step.NoMessage ∷ [] → is_some (item_at w.post.letters number) ≡ false → Applies types (Some w) (command.Deliver number) steps (Some w)
    deliver_absent steps is none = turned_down types w (command.Deliver number) step.NoMessage steps is refl
        (λ run r. first_at (all_met run (command.Deliver number)) 2 (refl, (ap not r.live.has, lacks_mail types w number run r false none)))
        (λ run who. refl)

    pub hear_nowhere : (at : PartId) (steps : List Step) → steps ≡ step.NoPart ∷ [] → holds_part w.live.sites at ≡ false → Applies types (Some w) (command.Hear number at) steps (Some w)
    hear_nowhere at steps is lacks = turned_down types w (command.Hear number at) step.NoPart steps is refl
        (λ run r. first_at (all_met run (command.Hear number at)) 2 (refl, (ap not r.live.has, ap not (sym (part_in types w.live run r.live at) ∙ lacks))))
        (λ run who. refl)

    pub hear_absent : (at : PartId) (steps : List Step) → steps ≡ step.NoMessage ∷ [] → holds_part w.live.sites at ≡ true → is_some (item_at w.post.notes number) ≡ false → Applies types (Some w) (command.Hear number at) steps (Some w)
    hear_absent at steps is has none = turned_down types w (command.Hear number at) step.NoMessage steps is refl
        (λ run r. first_at (all_met run (command.Hear number at)) 3 (refl, (ap not r.live.has, (ap not (sym (part_in types w.live run r.live at) ∙ has), lacks_notice types w number run r false none))))
        (λ run who. refl)

    pub hear_foreign : (at : PartId) (n : Note) (steps : List Step) → steps ≡ step.NoPart ∷ [] → holds_part w.live.sites at ≡ true → item_at w.post.notes number ≡ Some n → (n.from.site == at.site) ≡ false → Applies types (Some w) (command.Hear number at) steps (Some w)
    hear_foreign at n steps is has there other = turned_down types w (command.Hear number at) step.NoPart steps is refl
        (λ run r. let l : IsNote w.live.sites.sites w.live.sites.parts run (entries r.live.calls) number n = subst (λ o. NoteAs w.live.sites.sites w.live.sites.parts run (entries r.live.calls) number o) there (r.post.notes number) in
        first_at (all_met run (command.Hear number at)) 4 (refl, (ap not r.live.has, (ap not (sym (part_in types w.live run r.live at) ∙ has), (ap is_none l.notice, ap (λ o. is_foreign o at) l.notice ∙ ap not other)))))
        (λ run who. refl)
