-- How a read answers its command.
use Rattle.std.proofs.Common.{◌≡◌, ◌≤◌, ℕ, true, false, List, [], ◌∷◌, refl, sym, ap, ◌∙◌, subst, Option, None, Some}
use Rattle.std.specs.Prelude.{not, ◌&&◌}
use Rattle.site_vector.specs.declared.ids.PartId.{PartId}
use Rattle.site_vector.specs.declared.ids.TxId.{TxId}
use Rattle.crdt_core.specs.declared.object.ObjectId.{ObjectId}
use Rattle.crdt_core.specs.declared.record.Upd.{Upd}
use Rattle.crdt_core.specs.Placing.{place_of}
use Rattle.world_model.specs.declared.command.Command.TheVariants as command
use Rattle.world_model.specs.declared.step.Step.{Step}
use Rattle.world_model.specs.declared.step.Step.TheVariants as step
use Rattle.world_model.specs.commands.Answers.{answered}
use Rattle.world_model.specs.rules.Asking.{asked_by}
use Rattle.world_model.specs.commands.Cluster.{sites_of, parts_of}
use Rattle.world_model.specs.commands.CommitSteps.{Going, Preparing, Finishing, Aborting}
use Rattle.world_model.specs.rules.Event as event
use Rattle.world_model.specs.rules.Event.{AskRead, IsDown, Event, Decided, Refused, Cut, Entry, attempt}
use Rattle.world_model.specs.lines.Lines.{ReadOf}
use Rattle.world_model.specs.rules.Lines.{step_shown, session_of}
use Rattle.world_model.proofs.Dependency.{dependency_after}
use Rattle.world_model.specs.commands.Phases.{Phase, phase, phase_after, update_total}
use Rattle.world_model.specs.commands.Run.{Run}
use Rattle.world_model.specs.commands.ScriptAnswers.{Bears, AnswersBy, IsAnswer}
use Rattle.world_model.specs.commands.ScriptCalls.{at_object}
use Rattle.world_model.proofs.Names.{off}
use Rattle.txn_session.specs.Calls.{called, entries}
use Rattle.txn_session.specs.Holds.{HoldsDoing, MakesRead}
use Rattle.txn_session.specs.Session as session
use Rattle.txn_session.specs.Session.{Doing, Idle, Open, Ending, SessionState}
use Rattle.txn_session.specs.Session.{own_updates, place_in}
use Rattle.site_partitions.specs.Reaches.{Types}
use Rattle.cluster.specs.Acts.{Acts, Reads}
use Rattle.cluster.specs.Built.{is_built}
use Rattle.site_partitions.specs.Held.{Held}
use Rattle.cluster.specs.Live.{LiveState, session_in, phase_about, is_open_phase}
use Rattle.cluster.specs.Reached.{phase_as, StandsBy, GoesTo, AppliesLive}
use Rattle.cluster.specs.Sees.{Sees}
use Rattle.cluster.specs.Faults.{ShowFaults}
use Rattle.cluster.proofs.Faulted.{shows_told}
use Rattle.cluster.proofs.Seeing.{told_last}
use Rattle.cluster.proofs.Meets.{all_met, first_at, none_due, refused, has, lacks_session, has_session, open_is, by_name}
use Rattle.cluster.proofs.Sessions.{turns, acted}
use Rattle.cluster.proofs.Turned.{sure, is_decide_ask, answer_up}

module _ {E : Type 0} where
  -- of a session that is there
  pub open_phase : (d : Doing E) → is_open_phase (session.phase_of d) ≡ session.is_open d
  open_phase Idle = refl
  open_phase (Open txn) = refl
  open_phase (Ending txn lead commit) = by_going commit.going
    where
      by_going : (g : Going) → is_open_phase (session.phase_in g) ≡ false
      by_going (Preparing voted left n) = refl
      by_going (Finishing left n) = refl
      by_going (Aborting left) = refl

  pub none_about : (o : Option (SessionState E)) → phase_about o ≡ None → o ≡ None
  none_about None h = refl
  none_about (Some s) h = absurd cc

  module _ (events : List (Entry E)) (at : PartId) (tx : TxId) (s : List ℕ) (o : ObjectId) (own : List (Upd E)) where
    read_phase : (e : Event E) → asked_by (attempt e) ≡ AskRead tx s o own → (parts : ℕ) (who : List ℕ) (old : Phase) (name : List ℕ) → phase_after parts who old (Some (command.Read name o)) (step_shown events at e) ≡ old
    read_phase (event.Read t v o' w read value) a parts who old name = refl
    read_phase (Refused q IsDown) a parts who old name = refl
    read_phase (Refused q why) a parts who old name = refl
    read_phase (Cut (Decided t v)) a parts who old name = absurd cc
    read_phase (Cut what) a parts who old name = refl
    read_phase other a parts who old name = absurd cc

    read_depends : (e : Event E) → asked_by (attempt e) ≡ AskRead tx s o own → (n : ℕ) (who old : List ℕ) → dependency_after n events who old e ≡ old
    read_depends (event.Read t v o' w read value) a n who old = refl
    read_depends (Refused q why) a n who old = refl
    read_depends (Cut what) a n who old = refl
    read_depends other a n who old = absurd cc

    read_bears : (e : Event E) → asked_by (attempt e) ≡ AskRead tx s o own → (run : Run) (name : List ℕ) → session_of events tx ≡ name → Bears run (command.Read name o) (step_shown events at e)
    read_bears (event.Read t v o' w read value) a run name h = let et : t ≡ tx = cc in (ap (session_of events) et ∙ h, cc)
    read_bears (Refused q IsDown) a run name h = tt
    read_bears (Refused q why) a run name h = tt
    read_bears (Cut (Decided t v)) a run name h = tt
    read_bears (Cut what) a run name h = tt
    read_bears other a run name h = absurd cc

module _ {S E D : Type 0} (types : Types S E D) (c : LiveState E D) (name : List ℕ) where
  module _ (o : ObjectId) where
    pub read_absent : (steps : List Step) → steps ≡ step.NoSession ∷ [] → session_in c.sessions name ≡ None → AppliesLive types c (command.Read name o) steps c
    read_absent steps is none = refused types c (command.Read name o) step.NoSession steps is refl
        (λ run r. first_at (all_met run (command.Read name o)) 2 (refl, (has types c run r name, lacks_session types c run r name none)))
        (λ run r who. refl)

    pub read_shut : (steps : List Step) → steps ≡ step.NoTxn ∷ [] → (s : SessionState E) → session_in c.sessions name ≡ Some s → session.is_open s.doing ≡ false → AppliesLive types c (command.Read name o) steps c
    read_shut steps is s there shut = refused types c (command.Read name o) step.NoTxn steps is refl
        (λ run r. first_at (all_met run (command.Read name o)) 3 (refl, (has types c run r name, (has_session types c run r name s there, ap not (open_is types c run r name s there ∙ shut)))))
        (λ run r who. refl)

    pub read_applies : (later : Held E D) (sessions : List (List ℕ × SessionState E)) (answer : Step) (steps : List Step) → steps ≡ answer ∷ [] → (a : Acts types c.sites c.sessions name later sessions (Reads types c.sites later o answer)) → session.is_open a.before.doing ≡ true → AppliesLive types c (command.Read name o) steps (record { sites = later; sessions = sessions })
    read_applies later sessions answer steps is a is_open number run r =
        subst (λ l. IsAnswer is_built run (command.Read name o) l × GoesTo types c run r (record { sites = later; sessions = sessions }) (answered number (Some (command.Read name o)) l run) × ShowFaults types.state run c.sites later l) (sym is)
        (by_doing a.before.doing refl is_open d.2)
      where
        st : StandsBy run r.calls name a.before
        st = by_name types c run r name a.before a.is

        d : Reads types c.sites later o answer a.before a.after r.calls
        d = a.does r.calls r.sees st.holds

        by_doing : (doing : Doing E) → a.before.doing ≡ doing → session.is_open doing ≡ true → MakesRead (λ h (p : Unit {0}) l. Sees types h l) (λ (p : Unit {0}) n. true) later tt r.calls a.before a.after o answer doing
            → IsAnswer is_built run (command.Read name o) (answer ∷ []) × GoesTo types c run r (record { sites = later; sessions = sessions }) (answered number (Some (command.Read name o)) (answer ∷ []) run) × ShowFaults types.state run c.sites later (answer ∷ [])
        by_doing Idle e h m = off h
        by_doing (Ending txn lead commit) e h m = off h
        by_doing (Open txn) e h m =
            let t = turns types later tt r.calls a.before a.after (Some txn.by) _ _ answer m in
            let x = subst (HoldsDoing a.before.sites a.before.parts a.before.name a.before.site r.calls) e st.holds.doing in
            let mine : session_of (entries r.calls) txn.tx ≡ name = x.0.session ∙ st.name in
            let place : PartId = place_in a.before (place_of o.bucket o.key a.before.parts) in
            let bears = subst (Bears run (command.Read name o)) (sym t.shows) (read_bears (entries r.calls) place txn.tx txn.s o (own_updates txn.updates o) t.event t.asked run name mine) in
            let up = answer_up (entries r.calls) place t.event answer t.shows (told_last types later (called t.by place t.event) r.calls t.seen) in (
              subst (AnswersBy run (command.Read name o) (answer ∷ [])) (sym (none_due (all_met run (command.Read name o)) (refl, (has types c run r name, (has_session types c run r name a.before a.is, (ap not (open_is types c run r name a.before a.is ∙ is_open), tt)))))) (answer, refl, ap (λ b. b && true) up, bears),
              acted types c run r number (command.Read name o) name a.before a.is a.after place (AskRead txn.tx txn.s o (own_updates txn.updates o)) answer later t sessions (record {
                same = a.same;
                put = a.put;
                there = record { name = ap (λ y. y.name) d.1; site = ap (λ y. y.site) d.1; sites = ap (λ y. y.sites) d.1; parts = ap (λ y. y.parts) d.1 };
                own = mine;
                of_session = refl;
                placed = ap (λ p. at_object (parts_of run) o p (λ u. ReadOf u o)) (st.phase ∙ ap phase_as e) ∙ (λ i. record { at = record { site = x.0.site_is i; part = place_of o.bucket o.key (sym st.parts i) }; call = ReadOf txn.tx o });
                past = tt;
                told = d.0;
                few = subst (λ (y : SessionState E). update_total (phase_as y.doing) ≤ 256) (sym d.1) st.few;
                idle = λ who h line. refl;
                phase = ap (phase_after (parts_of run) name (phase run name) (Some (command.Read name o))) t.shows ∙ (read_phase (entries r.calls) place txn.tx txn.s o (own_updates txn.updates o) t.event t.asked (parts_of run) name (phase run name) name ∙ (st.phase ∙ ap (λ y. phase_as y.doing) (sym d.1)));
                depends = ap (λ y. y.dependency) d.1 ∙ sym (read_depends (entries r.calls) place txn.tx txn.s o (own_updates txn.updates o) t.event t.asked (sites_of run) name a.before.dependency);
              }),
              (shows_told types.state run c.sites later place answer d.0.0 (λ u k. absurd (sure (entries r.calls) place t.event (ap is_decide_ask t.asked) u (sym t.shows ∙ k))), tt),
            )
