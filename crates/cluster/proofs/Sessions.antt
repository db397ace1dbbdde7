-- A call of a session: its line, and the cluster after it.
use Rattle.std.proofs.Common.{◌≡◌, ◌≤◌, ℕ, Bool, true, false, List, [], ◌∷◌, ◌++◌, refl, sym, ap, ◌∙◌, subst, Option, Some}
use Rattle.std.specs.Prelude.{if◌then◌else◌, ◌&&◌, nat_le}
use Rattle.std.specs.Str.{bytes_eq}
use Rattle.std.proofs.lemmas.Slice.Eq.{bytes_eq-Decides}
use Rattle.std.proofs.lemmas.Bool.{true≢false}
use Rattle.site_vector.specs.declared.ids.PartId.{PartId}
use Rattle.world_model.specs.declared.command.Command.{Command}
use Rattle.world_model.specs.declared.step.Step.{Step}
use Rattle.world_model.specs.rules.Asking.{asked_by}
use Rattle.world_model.specs.commands.Cluster.{sites_of, parts_of}
use Rattle.world_model.specs.lines.Dependency.{IsOwnPast}
use Rattle.world_model.specs.rules.Event.{Ask, IsDown, Event, Decided, Opened, Refused, Cut, Entry, attempt, Restarted, RestartCut}
use Rattle.world_model.specs.rules.Lines.{call_asked, step_shown, call_of}
use Rattle.world_model.specs.commands.Meeting.{site_after, site_of}
use Rattle.world_model.proofs.Dependency.{dependency_after}
use Rattle.world_model.specs.commands.Phases.{phase, phase_after, by_command, update_total}
use Rattle.world_model.specs.commands.Run.{Run}
use Rattle.world_model.specs.commands.ScriptCalls.{is_answer, asked_of, numbered, calls_of}
use Rattle.txn_session.specs.Calls.{Call, entries, called, NoneBears}
use Rattle.txn_session.specs.Holds.{Holds, Makes}
use Rattle.txn_session.specs.Session.{SessionState}
use Rattle.site_partitions.specs.Held.{Held}
use Rattle.site_partitions.specs.Reaches.{Types}
use Rattle.cluster.specs.Fuel.{TellsCall}
use Rattle.cluster.proofs.FusedRuns.{is_of_restart}
use Rattle.cluster.specs.Same.{SameCluster}
use Rattle.cluster.specs.Live.{LiveState, session_in, IsPut}
use Rattle.cluster.specs.Reached.{phase_as, StandsBy, StandsAs, ReachedLive, GoesTo}
use Rattle.cluster.specs.Sees.{Sees}
use Rattle.cluster.proofs.Seeing.{is_told, told_last}
use Rattle.cluster.proofs.Turning.{is_numberless, IsCallLine, call_line, asked_lines, has_other_lines}
use Rattle.cluster.proofs.Turned.{IsOwnAsk, silent, call_is, numberless, next, depends_next, depended, other_next, fuel_told, turned}

pub same_name : (a b : List ℕ) → bytes_eq a b ≡ true → a ≡ b
same_name a b h = (bytes_eq-Decides a b).0 h

pub own_name : (a : List ℕ) → bytes_eq a a ≡ true
own_name a = (bytes_eq-Decides a a).1 refl

-- the session stays where it is
pub record IsThere {E : Type 0} (old new : SessionState E) : Type 0 where
  pub name : new.name ≡ old.name
  pub site : new.site ≡ old.site
  pub sites : new.sites ≡ old.sites
  pub parts : new.parts ≡ old.parts

module _ {S E D : Type 0} (types : Types S E D) where
  -- a call that was made and answered, with nobody else acting
  pub record Turns (held : Held E D) (calls : List (Call E)) (new : SessionState E) (at : PartId) (ask : Ask E) (answer : Step) : Type 0 where
    pub by : ℕ
    pub event : Event E
    pub asked : asked_by (attempt event) ≡ ask
    pub shows : answer ≡ step_shown (entries calls) at event
    pub seen : Sees types held (called by at event ∷ calls)
    pub holds : Holds new (called by at event ∷ calls)

  pub nobody : (more : List (Call E)) → NoneBears (λ n. true) more → more ≡ []
  nobody [] h = refl
  nobody (c ∷ more) h = absurd (true≢false h.0)

  pub turns : {P : Type 0} (held : Held E D) (pass : P) (calls : List (Call E)) (old new : SessionState E) (number : Option ℕ) (at : PartId) (ask : Ask E) (answer : Step) → Makes (λ s (p : P) l. Sees types s l) (λ (p : P) n. true) held pass calls old new number at ask answer → Turns held calls new at ask answer
  turns held pass calls old new number at ask answer m =
      let none : m.goes.more ≡ [] = nobody m.goes.more m.goes.others in record {
        by = m.goes.by;
        event = m.goes.event;
        asked = m.goes.asked;
        shows = subst (λ more. answer ≡ step_shown (entries (more ++ calls)) at m.goes.event) none m.goes.shows;
        seen = subst (λ more. Sees types held (called m.goes.by at m.goes.event ∷ (more ++ calls))) none m.goes.seen;
        holds = subst (λ more. Holds new (called m.goes.by at m.goes.event ∷ (more ++ calls))) none m.holds;
      }

  -- what a session asks is no restart
  own_called : (events : List (Entry E)) (name : List ℕ) (e : Event E) → IsOwnAsk events name (asked_by (attempt e)) → is_of_restart e ≡ false
  own_called events name RestartCut own = absurd own
  own_called events name (Restarted n b named listed) own = absurd own
  own_called events name other own = refl

  site_any : (events : List (Entry E)) (at : PartId) (name who : List ℕ) (old : Option ℕ) (e : Event E) → IsOwnAsk events name (asked_by (attempt e)) → site_after who old (step_shown events at e) ≡ old
  site_any events at name who old (Opened n) own = absurd own
  site_any events at name who old (Cut (Decided t v)) own = refl
  site_any events at name who old (Cut what) own = refl
  site_any events at name who old (Refused a IsDown) own = refl
  site_any events at name who old (Refused a why) own = refl
  site_any events at name who old other own = refl

  module _ (c : LiveState E D) (run : Run) (r : ReachedLive types c run) (number : ℕ) (cmd : Command) (name : List ℕ) (s : SessionState E) (is : session_in c.sessions name ≡ Some s) where
    -- it stands
    abbrev pub stands : StandsBy run r.calls name s
    stands = subst (λ o. StandsAs run r.calls name o) is (r.each name)

    module _ (new : SessionState E) (at : PartId) (ask : Ask E) (answer : Step) (held : Held E D) (t : Turns held r.calls new at ask answer) where
      -- what a call owes for the cluster to stand after it
      pub record Owes (sessions : List (List ℕ × SessionState E)) : Type 0 where
        pub same : SameCluster types.state c.sites held
        pub put : IsPut c.sessions name new sessions
        pub there : IsThere s new
        pub own : IsOwnAsk (entries r.calls) name ask
        pub of_session : has_other_lines cmd ≡ false
        pub placed : asked_of (calls_of run) run cmd ≡ record { at = at; call = call_asked ask }
        pub past : IsOwnPast (sites_of run) (calls_of run) (call_asked ask)
        pub told : TellsCall types c.sites held at answer
        pub idle : (who : List ℕ) → bytes_eq name who ≡ false → (line : Step) → by_command (parts_of run) who (phase run who) (Some cmd) line ≡ phase run who
        pub few : update_total (phase_as new.doing) ≤ 256
        pub phase : phase_after (parts_of run) name (phase run name) (Some cmd) answer ≡ phase_as new.doing
        pub depends : new.dependency ≡ dependency_after (sites_of run) (entries r.calls) name s.dependency t.event

      pub acted : (sessions : List (List ℕ × SessionState E)) → Owes sessions → GoesTo types c run r (record { sites = held; sessions = sessions }) ((record { number = number; command = Some cmd; step = answer }) ∷ run)
      acted sessions o = subst (λ line. GoesTo types c run r (record { sites = held; sessions = sessions }) ((record { number = number; command = Some cmd; step = line }) ∷ run)) (sym t.shows)
          (turned types c run r number cmd t.by at t.event held o.same t.seen plain lines_are sessions o.put.count past each
          (fuel_told types c run r number cmd t.by at t.event held o.same t.seen plain lines_are (subst (TellsCall types c.sites held at) t.shows o.told) (own_called (entries r.calls) name t.event own)))
        where
          own : IsOwnAsk (entries r.calls) name (asked_by (attempt t.event))
          own = subst (IsOwnAsk (entries r.calls) name) (sym t.asked) o.own

          done : is_told t.event ≡ true
          done = told_last types held (called t.by at t.event) r.calls t.seen

          call : call_of t.event ≡ call_asked ask
          call = call_is (entries r.calls) name t.event done own ∙ ap call_asked t.asked

          plain : is_numberless t.event ≡ true
          plain = numberless types.kinds held.sites held.parts at (t.seen.reached.is_run.0 at) (entries r.calls) name (t.seen.reached.state at) t.event own t.seen.reached.is_run.2.step

          told : IsCallLine run (step_shown (entries r.calls) at t.event)
          told = call_line run (entries r.calls) at t.event done plain

          lines_are : calls_of ((record { number = number; command = Some cmd; step = step_shown (entries r.calls) at t.event }) ∷ run) ≡ (record { at = at; call = call_of t.event; step = step_shown (entries r.calls) at t.event }) ∷ calls_of run
          lines_are = asked_lines number cmd run (step_shown (entries r.calls) at t.event) (step_shown (entries r.calls) at t.event) at (call_of t.event) o.of_session told.answer told.number (o.placed ∙ ap (λ k. record { at = at; call = k }) (sym call))

          past : IsOwnPast (sites_of run) (calls_of run) (call_of t.event)
          past = subst (IsOwnPast (sites_of run) (calls_of run)) (sym call) o.past

          after : Run
          after = next types c run r number cmd t.by at t.event held o.same t.seen plain lines_are

          st : StandsBy run r.calls name s
          st = stands

          mine : StandsBy after (called t.by at t.event ∷ r.calls) name new
          mine = record {
            name = o.there.name ∙ st.name;
            sites = o.there.sites ∙ (st.sites ∙ sym (told.sites (sites_of run)));
            parts = o.there.parts ∙ (st.parts ∙ sym (told.parts (parts_of run)));
            site = site_any (entries r.calls) at name name (site_of run name) t.event own ∙ (st.site ∙ ap Some (sym o.there.site));
            there = (λ i. nat_le 1 (o.there.site i) && nat_le (o.there.site i) (told.sites (sites_of run) i)) ∙ st.there;
            phase = ap (phase_after (parts_of run) name (phase run name) (Some cmd)) (sym t.shows) ∙ o.phase;
            few = o.few;
            depends = o.depends ∙ (ap (λ d. dependency_after (sites_of run) (entries r.calls) name d t.event) (st.depends ∙ depended types c run r number cmd t.by at t.event held o.same t.seen plain lines_are name) ∙ sym (depends_next types c run r number cmd t.by at t.event held o.same t.seen plain lines_are name));
            holds = t.holds;
          }

          each : (who : List ℕ) → StandsAs after (called t.by at t.event ∷ r.calls) who (session_in sessions who)
          each who = subst (λ x. StandsAs after (called t.by at t.event ∷ r.calls) who x) (sym (o.put.find who)) (by_name (bytes_eq name who) refl)
            where
              by_name : (b : Bool) → bytes_eq name who ≡ b → StandsAs after (called t.by at t.event ∷ r.calls) who (if b then Some new else session_in c.sessions who)
              by_name true h = subst (λ n. StandsBy after (called t.by at t.event ∷ r.calls) n new) (same_name name who h) mine
              by_name false h = other_next types c run r number cmd t.by at t.event held o.same t.seen plain lines_are who (session_in c.sessions who) (o.idle who h) (silent (entries r.calls) name who h t.event own) (r.each who)

      -- its line is that of the call
      pub acted_calls : (sessions : List (List ℕ × SessionState E)) → Owes sessions → calls_of ((record { number = number; command = Some cmd; step = answer }) ∷ run) ≡ (record { at = at; call = call_asked ask; step = answer }) ∷ calls_of run
      acted_calls sessions o = asked_lines number cmd run answer answer at (call_asked ask) o.of_session (ap is_answer t.shows ∙ told.answer) (ap (numbered run) t.shows ∙ (told.number ∙ sym t.shows)) o.placed
        where
          own : IsOwnAsk (entries r.calls) name (asked_by (attempt t.event))
          own = subst (IsOwnAsk (entries r.calls) name) (sym t.asked) o.own

          plain : is_numberless t.event ≡ true
          plain = numberless types.kinds held.sites held.parts at (t.seen.reached.is_run.0 at) (entries r.calls) name (t.seen.reached.state at) t.event own t.seen.reached.is_run.2.step

          told : IsCallLine run (step_shown (entries r.calls) at t.event)
          told = call_line run (entries r.calls) at t.event (told_last types held (called t.by at t.event) r.calls t.seen) plain
