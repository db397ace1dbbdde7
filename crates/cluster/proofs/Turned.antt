-- The cluster after one more call: the run goes on by the line that shows it.
use Rattle.std.proofs.Common.{◌≡◌, ℕ, Bool, true, false, true≢false, List, ◌∷◌, length, refl, sym, ap, ◌∙◌, subst, Option, Some}
use Rattle.std.specs.Prelude.{◌||◌, ⊤}
use Rattle.std.specs.Str.{bytes_eq}
use Rattle.site_vector.specs.declared.ids.PartId.{PartId}
use Rattle.site_vector.specs.declared.ids.TxId.{TxId}
use Rattle.crdt_core.specs.KindsOf.{Kinds}
use Rattle.world_model.specs.declared.command.Command.{Command}
use Rattle.world_model.specs.declared.step.Step.{Step}
use Rattle.world_model.specs.declared.step.Step.TheVariants as step
use Rattle.world_model.specs.rules.Asking.{asked_by}
use Rattle.world_model.specs.commands.Cluster.{has_cluster, sites_of, parts_of}
use Rattle.world_model.specs.lines.Dependency as lines
use Rattle.world_model.specs.lines.Dependency.{HandsOwn, IsOwnPast}
use Rattle.world_model.specs.rules.Event.{Ask, AskBegin, AskRead, AskUpdate, AskPrepare, AskDecide, AskFinish, AskAbort, AskTake, IsDown, IsBadOp, HasGap, IsRepeat, Event, Began, Updated, Prepared, Decided, Aborted, Sent, Took, Reported, Heard, Crashed, RestartCut, Restarted, Refused, Opened, Cut, Entry, attempt, is_sent, is_report}
use Rattle.world_model.specs.rules.Lines.{call_asked, step_shown, call_of, shown_lines, session_of}
use Rattle.world_model.specs.commands.Meeting.{site_of, session_count}
use Rattle.world_model.proofs.Dependency.{dependency_after, dependency}
use Rattle.world_model.specs.rules.Partition.{PartState, PartStep, IsRefused}
use Rattle.world_model.specs.commands.Phases.{phase, by_command}
use Rattle.world_model.specs.commands.Run.{Run}
use Rattle.world_model.specs.commands.ScriptCalls.{is_answer, is_called, calls_of}
use Rattle.world_model.specs.commands.ScriptCalls as script
use Rattle.world_model.specs.lines.Updates.{lead}
use Rattle.world_model.proofs.LineViews.{dependency_is}
use Rattle.world_model.proofs.Names.{off}
use Rattle.txn_session.specs.Calls.{Call, entries, called, IsLegal}
use Rattle.txn_session.specs.Session.{SessionState}
use Rattle.partition_core.specs.Moments.{Spends}
use Rattle.site_partitions.specs.Held.{Held}
use Rattle.site_partitions.specs.Moves.{Moves}
use Rattle.site_partitions.specs.Reaches.{Types}
use Rattle.cluster.specs.Faults.{TellsFault}
use Rattle.cluster.specs.Fuel.{Fueled, TellsCall}
use Rattle.cluster.proofs.FusedRuns.{is_of_restart}
use Rattle.cluster.specs.Same.{SameCluster}
use Rattle.cluster.specs.Live.{LiveState, session_in}
use Rattle.cluster.specs.Reached.{StandsBy, StandsAs, ReachedLive, GoesTo}
use Rattle.cluster.proofs.Doubting.{decided_at}
use Rattle.cluster.proofs.FuelCalls.{asked_at, asked_call}
use Rattle.cluster.proofs.FuelStays.{fueled_spent, fueled_call}
use Rattle.cluster.proofs.FuelWrites.{is_took}
use Rattle.cluster.proofs.Keeping.{grows_one, keeps_line, call_plain}
use Rattle.cluster.specs.Sees.{Sees, sees_legal}
use Rattle.cluster.proofs.Seeing.{is_told, told_last}
use Rattle.cluster.proofs.Standing.{SameFor, stands_still}
use Rattle.cluster.proofs.Turning.{is_numberless, IsCallLine, call_line, IsSilentFor, phase_other, site_other, depends_other, holds_other}

quiet_call : {E : Type 0} (e : Event E) → is_numberless e ≡ true → (is_sent e ≡ false) × (is_report e ≡ false)
quiet_call (Sent asked m) h = off h
quiet_call (Reported b) h = off h
quiet_call other h = (refl, refl)

-- nor was a message taken
plain_untaken : {E : Type 0} (events : List (Entry E)) (at : PartId) (e : Event E) → is_numberless e ≡ true → is_took (step_shown events at e) ≡ false
plain_untaken events at (Took number m) h = off h
plain_untaken events at (Cut (Decided t v)) h = refl
plain_untaken events at (Cut what) h = refl
plain_untaken events at (Refused a IsDown) h = refl
plain_untaken events at (Refused a why) h = refl
plain_untaken events at other h = refl

module _ {S E D : Type 0} (types : Types S E D) (c : LiveState E D) (run : Run) (r : ReachedLive types c run) (number : ℕ) (cmd : Command) (by : ℕ) (at : PartId) (e : Event E) (held : Held E D) (size : SameCluster types.state c.sites held) (sees : Sees types held (called by at e ∷ r.calls)) (plain : is_numberless e ≡ true)
    (lines_are : calls_of ((record { number = number; command = Some cmd; step = step_shown (entries r.calls) at e }) ∷ run) ≡ (record { at = at; call = call_of e; step = step_shown (entries r.calls) at e }) ∷ calls_of run) where
  abbrev pub line : Step
  line = step_shown (entries r.calls) at e

  abbrev pub next : Run
  next = (record { number = number; command = Some cmd; step = line }) ∷ run

  abbrev pub later : List (Call E)
  later = called by at e ∷ r.calls

  -- the call is asked where it is made, and a decide in doubt of its lead
  placed_at : is_called (Some cmd) line ≡ true → (script.asked_by (calls_of run) run (Some cmd) line).at ≡ at
  placed_at called = asked_at run (record { number = number; command = Some cmd; step = line }) (record { at = at; call = call_of e; step = line }) lines_are called

  asks_so : is_called (Some cmd) line ≡ true → (script.asked_by (calls_of run) run (Some cmd) line).call ≡ call_of e
  asks_so called = asked_call run (record { number = number; command = Some cmd; step = line }) (record { at = at; call = call_of e; step = line }) lines_are called

  doubted : (u : TxId) → line ≡ step.Unsure u → lead (parts_of run) (calls_of run) u ≡ at
  doubted u k = decided_at types c run r held size at by e sees u k

  told : IsCallLine run line
  told = call_line run (entries r.calls) at e (told_last types held (called by at e) r.calls sees) plain

  pub shown_next : shown_lines (entries later) ≡ calls_of next
  shown_next = ap (λ ls. (record { at = at; call = call_of e; step = line }) ∷ ls) r.shown ∙ sym lines_are

  legal : IsLegal types.kinds held.sites held.parts later
  legal = sees_legal types held later sees

  tail_legal : IsLegal types.kinds c.sites.sites c.sites.parts r.calls
  tail_legal = sees_legal types c.sites r.calls r.sees

  -- what the session depends on, as the events tell
  pub depends_next : (who : List ℕ) → lines.dependency (sites_of next) (calls_of next) who ≡ dependency_after (sites_of run) (entries r.calls) who (dependency (sites_of run) (entries r.calls) who) e
  depends_next who = (λ i. lines.dependency (told.sites (sites_of run) i) (sym shown_next i) who) ∙ dependency_is (sites_of run) (entries later) who

  pub depended : (who : List ℕ) → lines.dependency (sites_of run) (calls_of run) who ≡ dependency (sites_of run) (entries r.calls) who
  depended who = (λ i. lines.dependency (sites_of run) (sym r.shown i) who) ∙ dependency_is (sites_of run) (entries r.calls) who

  pub same_next : (who : List ℕ) → ((s : Step) → by_command (parts_of run) who (phase run who) (Some cmd) s ≡ phase run who) → IsSilentFor (entries r.calls) who e → SameFor next run who
  same_next who idle q = record {
    sites = told.sites (sites_of run);
    parts = told.parts (parts_of run);
    site = site_other (entries r.calls) at who (site_of run who) e q;
    phase = phase_other (entries r.calls) at who (parts_of run) (Some cmd) (phase run who) idle e q;
    depends = depends_next who ∙ (depends_other types.kinds c.sites.sites c.sites.parts r.calls tail_legal (sites_of run) who (dependency (sites_of run) (entries r.calls) who) e q ∙ sym (depended who));
  }

  -- another session
  pub other_next : (who : List ℕ) (o : Option (SessionState E)) → ((s : Step) → by_command (parts_of run) who (phase run who) (Some cmd) s ≡ phase run who) → IsSilentFor (entries r.calls) who e → StandsAs run r.calls who o → StandsAs next later who o
  other_next who o idle q st = stands_still next run later r.calls who o (same_next who idle q)
      (λ x is h.
      let x_is : StandsBy run r.calls who x = subst (λ y. StandsAs run r.calls who y) is st in
      holds_other types.kinds held.sites held.parts (called by at e) r.calls x legal (subst (λ n. IsSilentFor (entries r.calls) n e) (sym x_is.name) q) h)
      st

  -- the fuses after it, by what it took of the calls of its disk
  pub fuel_next : (m : Moves types.state c.sites held at) → Spends types.kinds types.codec types.state m.before m.after (r.sees.reached.state at) e → is_of_restart e ≡ false → TellsFault types.state c.sites held at line → Fueled types.state held next (entries later)
  fuel_next m spends no_restart tells = fueled_call types c.sites held at run (record { number = number; command = Some cmd; step = line }) (entries r.calls) r.sees.reached r.shown placed_at doubted m e sees.reached told.number asks_so spends no_restart tells r.fuel

  -- or as the store tells it
  pub fuel_told : TellsCall types c.sites held at line → is_of_restart e ≡ false → Fueled types.state held next (entries later)
  fuel_told tells no_restart = fueled_spent types c.sites held at run (record { number = number; command = Some cmd; step = line }) (entries r.calls) r.sees.reached r.shown placed_at doubted (entries later) (λ whole b. b.1) tells (plain_untaken (entries r.calls) at e plain) e sees.reached no_restart refl r.fuel

  quiet : (is_sent e ≡ false) × (is_report e ≡ false)
  quiet = quiet_call e plain

  pub turned : (sessions : List (List ℕ × SessionState E)) → length sessions ≡ length c.sessions → IsOwnPast (sites_of run) (calls_of run) (call_of e) → ((who : List ℕ) → StandsAs next later who (session_in sessions who)) → Fueled types.state held next (entries later) → GoesTo types c run r (record { sites = held; sessions = sessions }) next
  turned sessions count own each fuel = record {
    same = size;
    grows = grows_one (called by at e) r.calls quiet.0 quiet.1;
    keeps = keeps_line number (Some cmd) line run (call_plain (entries r.calls) at e quiet.0 quiet.1);
    reached = record {
      has = ap (λ x. x || has_cluster run) told.cluster ∙ r.has;
      sites = size.sites_are ∙ (r.sites ∙ sym (told.sites (sites_of run)));
      parts = size.parts_are ∙ (r.parts ∙ sym (told.parts (parts_of run)));
      calls = later;
      sees = sees;
      shown = shown_next;
      own = subst (λ n. HandsOwn n (calls_of next)) (sym (told.sites (sites_of run))) (subst (λ ls. HandsOwn (sites_of run) ls) (sym lines_are) (own, r.own));
      fuel = fuel;
      each = each;
      count = told.count (session_count run) ∙ (r.count ∙ sym count);
    };
  }

  -- a call of no session's
  pub turned_alone : ((who : List ℕ) (s : Step) → by_command (parts_of run) who (phase run who) (Some cmd) s ≡ phase run who) → ((who : List ℕ) → IsSilentFor (entries r.calls) who e) → IsOwnPast (sites_of run) (calls_of run) (call_of e) → Fueled types.state held next (entries later) → GoesTo types c run r (record { sites = held; sessions = c.sessions }) next
  turned_alone idle q own fuel = turned c.sessions refl own (λ who. other_next who (session_in c.sessions who) (idle who) (q who) (r.each who)) fuel

as_other : (name who other : List ℕ) → bytes_eq name who ≡ false → other ≡ name → bytes_eq other who ≡ false
as_other name who other q h = ap (λ n. bytes_eq n who) h ∙ q

module _ {E : Type 0} where
  -- a session asks for its own transaction
  abbrev pub IsOwnAsk : List (Entry E) → List ℕ → Ask E → Type 0
  IsOwnAsk run name (AskBegin who dep) = who ≡ name
  IsOwnAsk run name (AskRead t s o own) = session_of run t ≡ name
  IsOwnAsk run name (AskUpdate t s o own op) = session_of run t ≡ name
  IsOwnAsk run name (AskPrepare t s l w) = session_of run t ≡ name
  IsOwnAsk run name (AskDecide t c) = session_of run t ≡ name
  IsOwnAsk run name (AskFinish t c) = ⊤
  IsOwnAsk run name (AskAbort t) = session_of run t ≡ name
  IsOwnAsk run name other = ⊥

  pub silent : (run : List (Entry E)) (name who : List ℕ) → bytes_eq name who ≡ false → (e : Event E) → IsOwnAsk run name (asked_by (attempt e)) → IsSilentFor run who e
  silent run name who q (Began n dep t s) own = as_other name who n q own
  silent run name who q (Updated t s o w op read u stamp) own = as_other name who (session_of run t) q own
  silent run name who q (Prepared t s l w n) own = as_other name who (session_of run t) q own
  silent run name who q (Decided t c) own = as_other name who (session_of run t) q own
  silent run name who q (Aborted t true) own = as_other name who (session_of run t) q own
  silent run name who q (Aborted t false) own = tt
  silent run name who q (Cut (Prepared t s l w n)) own = as_other name who (session_of run t) q own
  silent run name who q (Cut (Decided t c)) own = as_other name who (session_of run t) q own
  silent run name who q (Cut (Aborted t true)) own = as_other name who (session_of run t) q own
  silent run name who q (Cut (Aborted t false)) own = tt
  silent run name who q (Cut what) own = tt
  silent run name who q (Opened n) own = absurd own
  silent run name who q other own = tt

  pub call_is : (run : List (Entry E)) (name : List ℕ) (e : Event E) → is_told e ≡ true → IsOwnAsk run name (asked_by (attempt e)) → call_of e ≡ call_asked (asked_by (attempt e))
  call_is run name (Cut (Refused asked why)) c own = off c
  call_is run name (Cut (Restarted n b named listed)) c own = off c
  call_is run name (Cut (Opened who)) c own = off c
  call_is run name (Cut (Cut what)) c own = off c
  call_is run name (Cut Crashed) c own = off c
  call_is run name (Cut RestartCut) c own = off c
  call_is run name (Cut what) c own = refl
  call_is run name Crashed c own = absurd own
  call_is run name RestartCut c own = absurd own
  call_is run name (Restarted n b named listed) c own = absurd own
  call_is run name (Opened n) c own = absurd own
  call_is run name other c own = refl

  -- a partition answered
  pub line_up : (run : List (Entry E)) (at : PartId) (e : Event E) → is_told e ≡ true → is_answer (step_shown run at e) ≡ true
  line_up run at (Cut (Decided t v)) c = refl
  line_up run at (Cut what) c = refl
  line_up run at (Refused a IsBadOp) c = off c
  line_up run at (Refused a why) c = refl
  line_up run at other c = refl

  abbrev pub is_decide_ask : Ask E → Bool
  is_decide_ask (AskDecide t c) = true
  is_decide_ask other = false

  -- only a decide is ever in doubt
  pub sure : (run : List (Entry E)) (at : PartId) (e : Event E) → is_decide_ask (asked_by (attempt e)) ≡ false → (t : TxId) → step_shown run at e ≡ step.Unsure t → ⊥
  sure run at (Cut (Decided u c)) h t k = true≢false h
  sure run at (Cut what) h t k = cc
  sure run at (Refused a IsDown) h t k = cc
  sure run at (Refused a why) h t k = cc
  sure run at other h t k = cc

  -- so does a line that shows its call
  pub answer_up : (run : List (Entry E)) (at : PartId) (e : Event E) (s : Step) → s ≡ step_shown run at e → is_told e ≡ true → is_answer s ≡ true
  answer_up run at e s is c = ap is_answer is ∙ line_up run at e c

  module _ {S : Type 0} (kinds : Kinds S E) (sites parts : ℕ) (id : PartId) (p : PartState E) (run : List (Entry E)) (name : List ℕ) where
    never_gap : (ask : Ask E) (n : ℕ) → IsOwnAsk run name ask → IsRefused kinds sites parts id p ask (HasGap n) → ⊥
    never_gap (AskTake k m) n own r = own
    never_gap other n own r = r.1

    never_repeat : (ask : Ask E) (n : ℕ) → IsOwnAsk run name ask → IsRefused kinds sites parts id p ask (IsRepeat n) → ⊥
    never_repeat (AskTake k m) n own r = own
    never_repeat other n own r = r.1

    pub numberless : (q : PartState E) (e : Event E) → IsOwnAsk run name (asked_by (attempt e)) → PartStep kinds sites parts id p e q → is_numberless e ≡ true
    numberless q (Sent asked m) own st = absurd own
    numberless q (Took k m) own st = absurd own
    numberless q (Reported b) own st = absurd own
    numberless q (Heard k j b stable) own st = absurd own
    numberless q (Opened who) own st = absurd own
    numberless q (Refused ask (HasGap n)) own st = absurd (never_gap ask n own st.0)
    numberless q (Refused ask (IsRepeat n)) own st = absurd (never_repeat ask n own st.0)
    numberless q (Refused ask why) own st = refl
    numberless q other own st = refl
