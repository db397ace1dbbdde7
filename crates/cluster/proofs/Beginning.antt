-- How the begin of a transaction answers its command.
use Rattle.std.proofs.Common.{◌≡◌, ◌≤◌, ℕ, Bool, true, false, List, [], ◌∷◌, refl, sym, ap, ◌∙◌, subst, Option, None, Some, arith}
use Rattle.std.specs.Prelude.{not, ◌&&◌, nat_le}
use Rattle.std.specs.Str.{bytes_eq}
use Rattle.std.proofs.lemmas.Bool.{cond-true, eqb-true, leb-true, and_parts}
use Rattle.site_vector.specs.Vector.{join}
use Rattle.site_vector.specs.declared.ids.PartId.{PartId}
use Rattle.world_model.specs.declared.command.Command.TheVariants as command
use Rattle.world_model.specs.declared.command.Mode.{Mode}
use Rattle.world_model.specs.declared.step.Step.{Step}
use Rattle.world_model.specs.declared.step.Step.TheVariants as step
use Rattle.world_model.specs.commands.Answers.{answered}
use Rattle.world_model.specs.rules.Asking.{asked_by}
use Rattle.world_model.specs.commands.Cluster.{sites_of, parts_of}
use Rattle.world_model.specs.commands.CommitSteps.{Going, Preparing, Finishing, Aborting}
use Rattle.world_model.specs.lines.Dependency as lines
use Rattle.world_model.specs.rules.Event.{AskBegin, IsDown, Event, Began, Refused, Cut, Entry, attempt}
use Rattle.world_model.specs.lines.Lines.{Begin, Wish, wish_of}
use Rattle.world_model.specs.rules.Lines.{step_shown}
use Rattle.world_model.specs.commands.Meeting.{begin_place, is_at, is_elsewhere, lacks_part, site_of, site_or_none}
use Rattle.world_model.proofs.Dependency.{dependency_after}
use Rattle.world_model.specs.commands.Phases as phases
use Rattle.world_model.specs.commands.Phases.{Phase, phase, phase_after, update_total}
use Rattle.world_model.specs.commands.Run.{Run}
use Rattle.world_model.specs.commands.ScriptAnswers.{Bears, AnswersBy, IsAnswer}
use Rattle.world_model.specs.commands.ScriptCalls.{calls_of}
use Rattle.txn_session.specs.Calls.{called, entries}
use Rattle.txn_session.specs.Opens.{IsOpened}
use Rattle.txn_session.specs.declared.phase.Phase.{Phase as Stage}
use Rattle.txn_session.specs.Session as session
use Rattle.txn_session.specs.Session.{Doing, Idle, Open, Ending, SessionState, place_in}
use Rattle.site_partitions.specs.Reaches.{Types}
use Rattle.cluster.specs.Acts.{Acts, Begins}
use Rattle.cluster.specs.Built.{is_built}
use Rattle.site_partitions.specs.Held.{Held}
use Rattle.cluster.specs.Same.{holds_place}
use Rattle.cluster.specs.Live.{LiveState, session_in, phase_in, phase_about, is_idle_phase, are_idle, is_of_site, is_of_own_site, number_of}
use Rattle.cluster.specs.Reached.{phase_as, StandsBy, ReachedLive, GoesTo, AppliesLive}
use Rattle.cluster.specs.Faults.{ShowFaults}
use Rattle.cluster.proofs.Faulted.{shows_told}
use Rattle.cluster.proofs.Seeing.{told_last}
use Rattle.cluster.proofs.Clocks.{part_in}
use Rattle.cluster.proofs.Meets.{all_met, first_at, none_due, refused, lacks_session, has_session, idle_is, by_name}
use Rattle.cluster.proofs.Sessions.{IsThere, turns, acted, own_name}
use Rattle.cluster.proofs.Turned.{sure, is_decide_ask, answer_up}

module _ {E : Type 0} where
  pub idle_phase : (d : Doing E) → is_idle_phase (session.phase_of d) ≡ session.is_idle d
  idle_phase Idle = refl
  idle_phase (Open txn) = refl
  idle_phase (Ending txn lead commit) = by_going commit.going
    where
      by_going : (g : Going) → is_idle_phase (session.phase_in g) ≡ false
      by_going (Preparing voted left n) = refl
      by_going (Finishing left n) = refl
      by_going (Aborting left) = refl

  -- a session that is there, and idle or not
  pub record IsDoing (o : Option (SessionState E)) (idle : Bool) : Type 0 where
    pub found : SessionState E
    pub is : o ≡ Some found
    pub so : session.is_idle found.doing ≡ idle

  pub doing_about : (o : Option (SessionState E)) (p : Stage) (idle : Bool) → phase_about o ≡ Some p → is_idle_phase p ≡ idle → IsDoing o idle
  doing_about None p idle h k = absurd cc
  doing_about (Some s) p idle h k = let e : session.phase_of s.doing ≡ p = cc in record { found = s; is = refl; so = sym (idle_phase s.doing) ∙ (ap is_idle_phase e ∙ k) }

  -- what a begin leaves of its session
  pub record IsBegun (events : List (Entry E)) (at : PartId) (old new : SessionState E) (e : Event E) (answer : Step) : Type 0 where
    pub there : IsThere old new
    pub few : update_total (phase_as new.doing) ≤ 256
    pub phase : (parts : ℕ) (part : Option PartId) (mode : Mode) (p : Phase) → p ≡ phase_as old.doing → phase_after parts old.name p (Some (command.Begin old.name part mode)) answer ≡ phase_as new.doing
    pub depends : (n : ℕ) → new.dependency ≡ dependency_after n events old.name old.dependency e
    pub bears : (run : Run) (part : Option PartId) (mode : Mode) → Bears run (command.Begin old.name part mode) answer

  same_there : (old new : SessionState E) → new ≡ old → IsThere old new
  same_there old new e = record { name = ap (λ y. y.name) e; site = ap (λ y. y.site) e; sites = ap (λ y. y.sites) e; parts = ap (λ y. y.parts) e }

  -- one that changes no session
  unbegun : (events : List (Entry E)) (at : PartId) (old new : SessionState E) (e : Event E) (line : Step) → new ≡ old → update_total (phase_as old.doing) ≤ 256 → ((n : ℕ) → dependency_after n events old.name old.dependency e ≡ old.dependency) → ((parts : ℕ) (part : Option PartId) (mode : Mode) (p : Phase) → phase_after parts old.name p (Some (command.Begin old.name part mode)) line ≡ p) → ((run : Run) (part : Option PartId) (mode : Mode) → Bears run (command.Begin old.name part mode) line) → IsBegun events at old new e line
  unbegun events at old new e line o few depends phase bears = record {
    there = same_there old new o;
    few = subst (λ (y : SessionState E). update_total (phase_as y.doing) ≤ 256) (sym o) few;
    phase = λ parts part mode p h. phase parts part mode p ∙ (h ∙ ap (λ y. phase_as y.doing) (sym o));
    depends = λ n. ap (λ y. y.dependency) o ∙ sym (depends n);
    bears = bears;
  }

  pub begun : (events : List (Entry E)) (at : PartId) (old new : SessionState E) (wish : Wish) (e : Event E) → asked_by (attempt e) ≡ AskBegin old.name wish → IsOpened old (step_shown events at e) new → session.is_idle old.doing ≡ true → update_total (phase_as old.doing) ≤ 256 → IsBegun events at old new e (step_shown events at e)
  begun events at old new wish (Began who dep t s) a o idle few =
      let ew : who ≡ old.name = cc in
      let same : bytes_eq who old.name ≡ true = ap (λ n. bytes_eq n old.name) ew ∙ own_name old.name in record {
        there = record { name = ap (λ y. y.name) o.1; site = ap (λ y. y.site) o.1; sites = ap (λ y. y.sites) o.1; parts = ap (λ y. y.parts) o.1 };
        few = subst (λ (y : SessionState E). update_total (phase_as y.doing) ≤ 256) (sym o.1) (omega arith);
        phase = λ parts part mode p h. cond-true (bytes_eq who old.name) (phases.Open t s []) p same ∙ ap (λ y. phase_as y.doing) (sym o.1);
        depends = λ n. ap (λ y. y.dependency) o.1 ∙ sym (cond-true (bytes_eq who old.name) (join old.dependency s) old.dependency same);
        bears = λ run part mode. ew;
      }
  begun events at old new wish (Cut (Began who dep t s)) a o idle few = unbegun events at old new _ _ o few (λ n. refl) (λ parts part mode p. refl) (λ run part mode. tt)
  begun events at old new wish (Cut (Refused q why)) a o idle few = unbegun events at old new _ _ o few (λ n. refl) (λ parts part mode p. refl) (λ run part mode. tt)
  begun events at old new wish (Cut what) a o idle few = absurd cc
  begun events at old new wish (Refused q IsDown) a o idle few = unbegun events at old new _ _ o few (λ n. refl) (λ parts part mode p. refl) (λ run part mode. tt)
  begun events at old new wish (Refused q why) a o idle few = unbegun events at old new _ _ o few (λ n. refl) (λ parts part mode p. refl) (λ run part mode. tt)
  begun events at old new wish other a o idle few = absurd cc

module _ {S E D : Type 0} (types : Types S E D) (c : LiveState E D) (name : List ℕ) (part : Option PartId) (mode : Mode) where
  lacks_in : (run : Run) → ReachedLive types c run → lacks_part run part ≡ not (holds_place c.sites part)
  lacks_in run r = by_part part
    where
      by_part : (o : Option PartId) → lacks_part run o ≡ not (holds_place c.sites o)
      by_part None = refl
      by_part (Some p) = ap not (sym (part_in types c run r p))

  elsewhere_in : (run : Run) (r : ReachedLive types c run) (s : SessionState E) → session_in c.sessions name ≡ Some s → is_elsewhere run name part ≡ not (is_of_own_site c.sessions name part)
  elsewhere_in run r s is = by_part part
    where
      at : site_of run name ≡ Some s.site
      at = (by_name types c run r name s is).site

      by_part : (o : Option PartId) → is_elsewhere run name o ≡ not (is_of_own_site c.sessions name o)
      by_part None = refl
      by_part (Some p) = ap (λ o. not (is_at o p.site)) at ∙ ap (λ o. not (is_of_site o p)) (sym is)

  pub begin_nowhere : (steps : List Step) → steps ≡ step.NoPart ∷ [] → holds_place c.sites part ≡ false → AppliesLive types c (command.Begin name part mode) steps c
  begin_nowhere steps is lacks = refused types c (command.Begin name part mode) step.NoPart steps is refl
      (λ run r. first_at (all_met run (command.Begin name part mode)) 2 (refl, (ap not r.has, lacks_in run r ∙ ap not lacks)))
      (λ run r who. refl)

  pub begin_absent : (steps : List Step) → steps ≡ step.NoSession ∷ [] → holds_place c.sites part ≡ true → session_in c.sessions name ≡ None → AppliesLive types c (command.Begin name part mode) steps c
  begin_absent steps is there gone = refused types c (command.Begin name part mode) step.NoSession steps is refl
      (λ run r. first_at (all_met run (command.Begin name part mode)) 3 (refl, (ap not r.has, (lacks_in run r ∙ ap not there, lacks_session types c run r name gone))))
      (λ run r who. refl)

  pub begin_elsewhere : (steps : List Step) → steps ≡ step.NoPart ∷ [] → holds_place c.sites part ≡ true → (idle : Bool) → IsDoing (session_in c.sessions name) idle → is_of_own_site c.sessions name part ≡ false → AppliesLive types c (command.Begin name part mode) steps c
  begin_elsewhere steps is there idle x off_site = let s = x.found in let in_table = x.is in refused types c (command.Begin name part mode) step.NoPart steps is refl
      (λ run r. first_at (all_met run (command.Begin name part mode)) 4 (refl, (ap not r.has, (lacks_in run r ∙ ap not there, (has_session types c run r name s in_table, elsewhere_in run r s in_table ∙ ap not off_site)))))
      (λ run r who. refl)

  pub begin_busy : (steps : List Step) → steps ≡ step.HasTxn ∷ [] → holds_place c.sites part ≡ true → is_of_own_site c.sessions name part ≡ true → IsDoing (session_in c.sessions name) false → AppliesLive types c (command.Begin name part mode) steps c
  begin_busy steps is there here x = refused types c (command.Begin name part mode) step.HasTxn steps is refl
      (λ run r. first_at (all_met run (command.Begin name part mode)) 5 (refl, (ap not r.has, (lacks_in run r ∙ ap not there, (has_session types c run r name x.found x.is, (elsewhere_in run r x.found x.is ∙ ap not here, ap not (idle_is types c run r name x.found x.is ∙ x.so)))))))
      (λ run r who. refl)

  place_is : (run : Run) (r : ReachedLive types c run) (s : SessionState E) → session_in c.sessions name ≡ Some s → is_of_own_site c.sessions name part ≡ true → begin_place run name part ≡ place_in s (number_of part)
  place_is run r s is = by_part part
    where
      at : site_of run name ≡ Some s.site
      at = (by_name types c run r name s is).site

      by_part : (o : Option PartId) → is_of_own_site c.sessions name o ≡ true → begin_place run name o ≡ place_in s (number_of o)
      by_part None h = ap (λ d. record { site = site_or_none d; part = 1 }) at
      by_part (Some p) h = ap (λ d. record { site = d; part = p.part }) (sym (eqb-true s.site p.site (ap (λ o. is_of_site o p) (sym is) ∙ h)))

  pub begin_applies : (later : Held E D) (sessions : List (List ℕ × SessionState E)) (answer : Step) (steps : List Step) → steps ≡ answer ∷ [] → holds_place c.sites part ≡ true → is_of_own_site c.sessions name part ≡ true → are_idle (phase_in c.sessions name) ≡ true → Acts types c.sites c.sessions name later sessions (Begins types c.sites later (number_of part) mode answer) → AppliesLive types c (command.Begin name part mode) steps (record { sites = later; sessions = sessions })
  begin_applies later sessions answer steps is there here idles a number run r =
      let st : StandsBy run r.calls name a.before = by_name types c run r name a.before a.is in
      let d : Begins types c.sites later (number_of part) mode answer a.before a.after r.calls = a.does r.calls r.sees st.holds in
      let idle : session.is_idle a.before.doing ≡ true = sym (idle_phase a.before.doing) ∙ subst (λ x. are_idle (phase_about x) ≡ true) a.is idles in
      let place : PartId = place_in a.before (number_of part) in
      let t = turns types later tt r.calls a.before a.after None place (AskBegin a.before.name (wish_of a.before.dependency mode)) answer d.2 in
      let o : IsOpened a.before (step_shown (entries r.calls) place t.event) a.after = subst (λ l. IsOpened a.before l a.after) t.shows d.1 in
      let up = answer_up (entries r.calls) place t.event answer t.shows (told_last types later (called t.by place t.event) r.calls t.seen) in
      let b : IsBegun (entries r.calls) place a.before a.after t.event (step_shown (entries r.calls) place t.event) = begun (entries r.calls) place a.before a.after (wish_of a.before.dependency mode) t.event t.asked o idle st.few in
      subst (λ l. IsAnswer is_built run (command.Begin name part mode) l × GoesTo types c run r (record { sites = later; sessions = sessions }) (answered number (Some (command.Begin name part mode)) l run) × ShowFaults types.state run c.sites later l) (sym is) (
        subst (AnswersBy run (command.Begin name part mode) (answer ∷ []))
            (sym (none_due (all_met run (command.Begin name part mode)) (refl, (ap not r.has, (lacks_in run r ∙ ap not there, (has_session types c run r name a.before a.is, (elsewhere_in run r a.before a.is ∙ ap not here, (ap not (idle_is types c run r name a.before a.is ∙ idle), tt))))))))
            (answer, refl, ap (λ x. x && true) up, subst (λ n. Bears run (command.Begin n part mode) answer) st.name (subst (Bears run (command.Begin a.before.name part mode)) (sym t.shows) (b.bears run part mode))),
        acted types c run r number (command.Begin name part mode) name a.before a.is a.after place (AskBegin a.before.name (wish_of a.before.dependency mode)) answer later t sessions (record {
          same = a.same;
          put = a.put;
          there = b.there;
          own = st.name;
          of_session = refl;
          placed = (λ i. record { at = place_is run r a.before a.is here i; call = Begin (sym st.name i) (wish_of (sym st.depends i) mode) });
          past = st.depends ∙ ap (lines.dependency (sites_of run) (calls_of run)) (sym st.name);
          told = d.0;
          few = b.few;
          idle = λ who h line. refl;
          phase = subst (λ n. phase_after (parts_of run) n (phase run name) (Some (command.Begin n part mode)) answer ≡ phase_as a.after.doing) st.name (ap (phase_after (parts_of run) a.before.name (phase run name) (Some (command.Begin a.before.name part mode))) t.shows ∙ b.phase (parts_of run) part mode (phase run name) st.phase);
          depends = subst (λ n. a.after.dependency ≡ dependency_after (sites_of run) (entries r.calls) n a.before.dependency t.event) st.name (b.depends (sites_of run));
        }),
        (shows_told types.state run c.sites later place answer d.0.0 (λ u k. absurd (sure (entries r.calls) place t.event (ap is_decide_ask t.asked) u (sym t.shows ∙ k))), tt),
      )

pub idle_about : (o : Option Stage) (p : Stage) → o ≡ Some p → is_idle_phase p ≡ true → are_idle o ≡ true
idle_about o p h k = ap are_idle h ∙ k

-- the partition's number is one of the cluster's
pub part_least : {E D : Type 0} (c : Held E D) (part : Option PartId) → holds_place c part ≡ true → 1 ≤ number_of part
part_least c None h = omega arith
part_least c (Some p) h = leb-true 1 p.part (and_parts (nat_le 1 p.part) _ (and_parts _ (nat_le 1 p.part && nat_le p.part c.parts) h).1).0

pub part_most : {E D : Type 0} (c : Held E D) (part : Option PartId) → 1 ≤ c.parts → holds_place c part ≡ true → number_of part ≤ c.parts
part_most c None some h = some
part_most c (Some p) some h = leb-true p.part c.parts (and_parts (nat_le 1 p.part) _ (and_parts _ (nat_le 1 p.part && nat_le p.part c.parts) h).1).1
