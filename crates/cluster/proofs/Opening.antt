-- How a session is made and removed: neither asks a partition for anything.
use Rattle.std.proofs.Common.{◌≡◌, ◌≢◌, ◌≤◌, ℕ, ◌+◌, Bool, true, false, List, [], ◌∷◌, length, replicate, refl, sym, ap, ◌∙◌, subst, Option, None, Some, arith}
use Rattle.std.specs.Prelude.{not, ◌==◌, nat_le, is_some, if◌then◌else◌}
use Rattle.std.specs.Str.{bytes_eq}
use Rattle.std.proofs.lemmas.Slice.Eq.{bytes_eq-Decides}
use Rattle.std.proofs.lemmas.Bool.{cond-true, cond-false, and_parts, leb-true, eqb-true, false_from_ne_true}
use Rattle.site_vector.specs.declared.ids.PartId.{PartId}
use Rattle.world_model.specs.declared.command.Command.TheVariants as command
use Rattle.world_model.specs.declared.step.Step.{Step}
use Rattle.world_model.specs.declared.step.Step.TheVariants as step
use Rattle.world_model.specs.commands.Answers.{answered}
use Rattle.world_model.specs.commands.Cluster.{has_site, sites_of}
use Rattle.world_model.specs.lines.Dependency as lines
use Rattle.world_model.specs.rules.Event.{Opened}
use Rattle.world_model.specs.lines.Lines.{Open}
use Rattle.world_model.specs.rules.Lines.{shown_lines}
use Rattle.world_model.specs.commands.Meeting.{site_of}
use Rattle.world_model.specs.commands.Phases as phases
use Rattle.world_model.specs.commands.Phases.{phase, update_total}
use Rattle.world_model.specs.lines.Places.{IsPlace}
use Rattle.world_model.specs.commands.Run.{Run}
use Rattle.world_model.specs.commands.ScriptAnswers.{AnswersBy, IsAnswer}
use Rattle.world_model.specs.commands.ScriptCalls.{calls_of}
use Rattle.txn_session.specs.Calls.{Call, called, entries}
use Rattle.txn_session.specs.Holds.{Holds, AreApart}
use Rattle.txn_session.specs.Session.{Doing, Idle, Open as IsOpen, Ending, SessionState}
use Rattle.txn_session.proofs.Frames.{holds_more}
use Rattle.site_partitions.specs.Reaches.{Types}
use Rattle.cluster.specs.Built.{is_built}
use Rattle.site_partitions.specs.Held.{Held, holds_site}
use Rattle.cluster.specs.Same.{same_refl}
use Rattle.cluster.specs.Live.{LiveState, session_in}
use Rattle.cluster.specs.Reached.{phase_as, StandsBy, StandsAs, ReachedLive, IsReachedLive, GoesTo, AppliesLive}
use Rattle.cluster.proofs.Keeping.{grows_none, grows_one, keeps_line}
use Rattle.cluster.specs.Sees.{Sees}
use Rattle.cluster.specs.Acts.{Moves}
use Rattle.cluster.proofs.Beginning.{IsDoing}
use Rattle.txn_session.specs.Session.{moved_to}
use Rattle.cluster.proofs.Clocks.{site_in}
use Rattle.cluster.proofs.Meets.{all_met, first_at, none_due, refused, there_as, idle_is, absent, lacks_session, has_session, by_name}
use Rattle.cluster.specs.Faults.{ShowFaults}
use Rattle.cluster.proofs.Sessions.{own_name}
use Rattle.cluster.proofs.FuelStays.{fueled_idle}
use Rattle.cluster.proofs.Standing.{SameFor, stands_still, idle_fuel}

pub none_of : {A : Type 0} (o : Option A) → is_some o ≡ false → o ≡ None
none_of None h = refl
none_of (Some x) h = absurd cc

pub not_many : (n m : ℕ) → m ≡ n → m ≢ 64 → (n == 64) ≡ false
not_many n m e h = false_from_ne_true (n == 64) (λ k. h (e ∙ eqb-true n 64 k))

module _ {S E D : Type 0} (types : Types S E D) where
  -- a session is opened: no partition is changed
  opened_at : (c : Held E D) (calls : List (Call E)) (at : PartId) (name : List ℕ) → IsPlace c.sites c.parts at → Sees types c calls → Sees types c (called 0 at (Opened name) ∷ calls)
  opened_at c calls at name place s = record {
    reached = record {
      state = s.reached.state;
      is_run = (s.reached.state, s.reached.is_run, record { place = place; allowed = tt; fit = tt; step = refl; others = λ q k. refl }, tt);
      puts = (tt, s.reached.puts);
      each = s.reached.each;
    };
    one_caller = (refl, s.one_caller);
    rooms = (tt, s.rooms);
  }

  apart_opened : (calls : List (Call E)) (at : PartId) (name : List ℕ) (d : Doing E) → AreApart d (called 0 at (Opened name) ∷ [])
  apart_opened calls at name Idle = tt
  apart_opened calls at name (IsOpen txn) = (refl, tt)
  apart_opened calls at name (Ending txn lead commit) = (refl, tt)

  module _ (c : LiveState E D) (name : List ℕ) (site : ℕ) where
    pub session_nowhere : (steps : List Step) → steps ≡ step.NoPart ∷ [] → holds_site c.sites site ≡ false → AppliesLive types c (command.Session name site) steps c
    session_nowhere steps is lacks = refused types c (command.Session name site) step.NoPart steps is refl
        (λ run r. first_at (all_met run (command.Session name site)) 2 (refl, (ap not r.has, ap not (sym (site_in types c run r site) ∙ lacks))))
        (λ run r who. refl)

    pub session_again : (steps : List Step) → steps ≡ step.HasSession ∷ [] → holds_site c.sites site ≡ true → is_some (session_in c.sessions name) ≡ true → AppliesLive types c (command.Session name site) steps c
    session_again steps is there some = by_session (session_in c.sessions name) refl some
      where
        by_session : (o : Option (SessionState E)) → session_in c.sessions name ≡ o → is_some o ≡ true → AppliesLive types c (command.Session name site) steps c
        by_session None e h = absurd cc
        by_session (Some s) e h = refused types c (command.Session name site) step.HasSession steps is refl
            (λ run r. first_at (all_met run (command.Session name site)) 3 (refl, (ap not r.has, (ap not (sym (site_in types c run r site) ∙ there), there_is run r s e))))
            (λ run r who. refl)
          where
            there_is : (run : Run) (r : ReachedLive types c run) (s : SessionState E) → session_in c.sessions name ≡ Some s → phases.is_there (phase run name) ≡ true
            there_is run r s e = ap phases.is_there (by_name types c run r name s e).phase ∙ there_as s.doing

    gone : session_in c.sessions name ≡ None → (run : Run) (r : ReachedLive types c run) → phases.is_there (phase run name) ≡ false
    gone none run r = ap phases.is_there (absent types c run r name none)

    pub session_full : (steps : List Step) → steps ≡ step.LimitSessions ∷ [] → holds_site c.sites site ≡ true → session_in c.sessions name ≡ None → length c.sessions ≡ 64 → AppliesLive types c (command.Session name site) steps c
    session_full steps is there none all = refused types c (command.Session name site) step.LimitSessions steps is refl
        (λ run r. first_at (all_met run (command.Session name site)) 4 (refl, (ap not r.has, (ap not (sym (site_in types c run r site) ∙ there), (gone none run r, ap (λ n. n == 64) (r.count ∙ all))))))
        (λ run r who. refl)

    pub session_made : (sessions : List (List ℕ × SessionState E)) (s : SessionState E) (steps : List Step) → steps ≡ step.MadeSession name site ∷ [] → holds_site c.sites site ≡ true → 1 ≤ c.sites.parts → session_in c.sessions name ≡ None → (length c.sessions == 64) ≡ false
        → s ≡ record { name = name; site = site; sites = c.sites.sites; parts = c.sites.parts; dependency = replicate c.sites.sites 0; doing = Idle } → ((calls : List (Call E)) → Holds s calls)
        → ((who : List ℕ) → session_in sessions who ≡ (if bytes_eq name who then Some s else session_in c.sessions who)) → length sessions ≡ length c.sessions + 1
        → AppliesLive types c (command.Session name site) steps (record { sites = c.sites; sessions = sessions })
    session_made sessions s steps is there some none room new holds find count number run r =
        subst (λ l. IsAnswer is_built run (command.Session name site) l × GoesTo types c run r (record { sites = c.sites; sessions = sessions }) (answered number (Some (command.Session name site)) l run) × ShowFaults types.state run c.sites c.sites l) (sym is) (
          subst (AnswersBy run (command.Session name site) (step.MadeSession name site ∷ [])) (sym (none_due (all_met run (command.Session name site)) (refl, (ap not r.has, (ap not (sym (site_in types c run r site) ∙ there), (gone none run r, (ap (λ n. n == 64) r.count ∙ room, tt))))))) refl,
          record {
            same = same_refl types.state c.sites;
            grows = grows_one (called 0 at (Opened name)) r.calls refl refl;
            keeps = keeps_line number (Some (command.Session name site)) (step.MadeSession name site) run refl;
            reached = record {
              has = r.has;
              sites = r.sites;
              parts = r.parts;
              calls = later;
              sees = opened_at c.sites r.calls at name place r.sees;
              shown = shown;
              own = (tt, r.own);
              fuel = fueled_idle types.state c.sites run (record { number = number; command = Some (command.Session name site); step = step.MadeSession name site }) (entries r.calls) (entries later) (record { lets = refl; untaken = refl; unchanged = λ h ls p. refl }) (λ whole b. b.1) r.fuel;
              each = each;
              count = ap (λ n. n + 1) r.count ∙ sym count;
            };
          },
          (tt, tt),
        )
      where
        at : PartId
        at = record { site = site; part = 1 }

        place : IsPlace c.sites.sites c.sites.parts at
        place = let p = and_parts (nat_le 1 site) _ there in record { least_site = leb-true 1 site p.0; most_site = leb-true site c.sites.sites p.1; least_part = omega arith; most_part = some }

        later : List (Call E)
        later = called 0 at (Opened name) ∷ r.calls

        next : Run
        next = (record { number = number; command = Some (command.Session name site); step = step.MadeSession name site }) ∷ run

        shown : shown_lines (entries later) ≡ calls_of next
        shown = ap (λ ls. (record { at = at; call = Open; step = step.MadeSession name site }) ∷ ls) r.shown

        mine : StandsBy next later name s
        mine = record {
          name = ap (λ y. y.name) new;
          sites = ap (λ y. y.sites) new ∙ r.sites;
          parts = ap (λ y. y.parts) new ∙ r.parts;
          site = cond-true (bytes_eq name name) (Some site) (site_of run name) (own_name name) ∙ ap (λ y. Some y.site) (sym new);
          there = ap (λ y. has_site run y.site) new ∙ (sym (site_in types c run r site) ∙ there);
          phase = cond-true (bytes_eq name name) phases.Idle (phase run name) (own_name name) ∙ ap (λ y. phase_as y.doing) (sym new);
          few = subst (λ (y : SessionState E). update_total (phase_as y.doing) ≤ 256) (sym new) (omega arith);
          depends = ap (λ y. y.dependency) new ∙ (ap (λ n. replicate n 0) r.sites ∙ sym (cond-true (bytes_eq name name) (replicate (sites_of run) 0) (lines.dependency (sites_of run) (calls_of run) name) (own_name name)));
          holds = holds later;
        }

        same : (who : List ℕ) → bytes_eq name who ≡ false → SameFor next run who
        same who h = record {
          sites = refl;
          parts = refl;
          site = cond-false (bytes_eq name who) (Some site) (site_of run who) h;
          phase = cond-false (bytes_eq name who) phases.Idle (phase run who) h;
          depends = cond-false (bytes_eq name who) (replicate (sites_of run) 0) (lines.dependency (sites_of run) (calls_of run) who) h;
        }

        each : (who : List ℕ) → StandsAs next later who (session_in sessions who)
        each who = subst (λ x. StandsAs next later who x) (sym (find who)) (by_bool (bytes_eq name who) refl)
          where
            by_bool : (b : Bool) → bytes_eq name who ≡ b → StandsAs next later who (if b then Some s else session_in c.sessions who)
            by_bool true h = subst (λ n. StandsBy next later n s) ((bytes_eq-Decides name who).0 h) mine
            by_bool false h = stands_still next run later r.calls who (session_in c.sessions who) (same who h) (λ x e k. holds_more x (called 0 at (Opened name) ∷ []) r.calls (apart_opened r.calls at name x.doing) k) (r.each who)

  module _ (c : LiveState E D) (name : List ℕ) where
    pub lose_absent : (steps : List Step) → steps ≡ step.NoSession ∷ [] → session_in c.sessions name ≡ None → AppliesLive types c (command.Lose name) steps c
    lose_absent steps is none = refused types c (command.Lose name) step.NoSession steps is refl
        (λ run r. first_at (all_met run (command.Lose name)) 2 (refl, (ap not r.has, lacks_session types c run r name none)))
        (λ run r who. refl)

    pub session_lost : (sessions : List (List ℕ × SessionState E)) (steps : List Step) → steps ≡ step.Lost name ∷ [] → is_some (session_in c.sessions name) ≡ true → ((who : List ℕ) → session_in sessions who ≡ (if bytes_eq name who then None else session_in c.sessions who)) → length sessions + 1 ≡ length c.sessions
        → AppliesLive types c (command.Lose name) steps (record { sites = c.sites; sessions = sessions })
    session_lost sessions steps is some find count number run r =
        subst (λ l. IsAnswer is_built run (command.Lose name) l × GoesTo types c run r (record { sites = c.sites; sessions = sessions }) (answered number (Some (command.Lose name)) l run) × ShowFaults types.state run c.sites c.sites l) (sym is) (
          subst (AnswersBy run (command.Lose name) (step.Lost name ∷ [])) (sym (none_due (all_met run (command.Lose name)) (refl, (ap not r.has, (was_there (session_in c.sessions name) refl some, tt))))) refl,
          record {
            same = same_refl types.state c.sites;
            grows = grows_none r.calls;
            keeps = keeps_line number (Some (command.Lose name)) (step.Lost name) run refl;
            reached = record {
              has = r.has;
              sites = r.sites;
              parts = r.parts;
              calls = r.calls;
              sees = r.sees;
              shown = r.shown;
              own = r.own;
              fuel = idle_fuel types c number (Some (command.Lose name)) (step.Lost name) run (record { lets = refl; untaken = refl; unchanged = λ h ls p. refl }) r;
              each = each;
              count = (let n = r.count in omega (arith, n, count));
            };
          },
          (tt, tt),
        )
      where
        was_there : (o : Option (SessionState E)) → session_in c.sessions name ≡ o → is_some o ≡ true → not (phases.is_there (phase run name)) ≡ false
        was_there None e h = absurd cc
        was_there (Some s) e h = has_session types c run r name s e

        next : Run
        next = (record { number = number; command = Some (command.Lose name); step = step.Lost name }) ∷ run

        each : (who : List ℕ) → StandsAs next r.calls who (session_in sessions who)
        each who = subst (λ x. StandsAs next r.calls who x) (sym (find who)) (by_bool (bytes_eq name who) refl)
          where
            by_bool : (b : Bool) → bytes_eq name who ≡ b → StandsAs next r.calls who (if b then None else session_in c.sessions who)
            by_bool true h = (cond-true (bytes_eq name who) phases.Absent (phase run who) h, cond-true (bytes_eq name who) None (site_of run who) h)
            by_bool false h = stands_still next run r.calls r.calls who (session_in c.sessions who)
                (record { sites = refl; parts = refl; site = cond-false (bytes_eq name who) None (site_of run who) h; phase = cond-false (bytes_eq name who) phases.Absent (phase run who) h; depends = refl })
                (λ x e k. k) (r.each who)

  module _ (c : LiveState E D) (name : List ℕ) (site : ℕ) where
    pub move_nowhere : (steps : List Step) → steps ≡ step.NoPart ∷ [] → holds_site c.sites site ≡ false → AppliesLive types c (command.Move name site) steps c
    move_nowhere steps is lacks = refused types c (command.Move name site) step.NoPart steps is refl
        (λ run r. first_at (all_met run (command.Move name site)) 2 (refl, (ap not r.has, ap not (sym (site_in types c run r site) ∙ lacks))))
        (λ run r who. refl)

    pub move_absent : (steps : List Step) → steps ≡ step.NoSession ∷ [] → holds_site c.sites site ≡ true → session_in c.sessions name ≡ None → AppliesLive types c (command.Move name site) steps c
    move_absent steps is there none = refused types c (command.Move name site) step.NoSession steps is refl
        (λ run r. first_at (all_met run (command.Move name site)) 3 (refl, (ap not r.has, (ap not (sym (site_in types c run r site) ∙ there), lacks_session types c run r name none))))
        (λ run r who. refl)

    pub move_busy : (steps : List Step) → steps ≡ step.HasTxn ∷ [] → holds_site c.sites site ≡ true → IsDoing (session_in c.sessions name) false → AppliesLive types c (command.Move name site) steps c
    move_busy steps is there x = refused types c (command.Move name site) step.HasTxn steps is refl
        (λ run r. first_at (all_met run (command.Move name site)) 4 (refl, (ap not r.has, (ap not (sym (site_in types c run r site) ∙ there), (has_session types c run r name x.found x.is, ap not (idle_is types c run r name x.found x.is ∙ x.so))))))
        (λ run r who. refl)

    pub session_moved : (sessions : List (List ℕ × SessionState E)) (answer : Step) (steps : List Step) → steps ≡ answer ∷ [] → holds_site c.sites site ≡ true → IsDoing (session_in c.sessions name) true → Moves c.sessions name site answer sessions → AppliesLive types c (command.Move name site) steps (record { sites = c.sites; sessions = sessions })
    session_moved sessions answer steps is there x m number run r =
        subst (λ l. IsAnswer is_built run (command.Move name site) l × GoesTo types c run r (record { sites = c.sites; sessions = sessions }) (answered number (Some (command.Move name site)) l run) × ShowFaults types.state run c.sites c.sites l) (sym (is ∙ ap (λ s. s ∷ []) line)) (
          subst (AnswersBy run (command.Move name site) (step.Moved name site ∷ [])) (sym (none_due (all_met run (command.Move name site)) (refl, (ap not r.has, (ap not (sym (site_in types c run r site) ∙ there), (has_session types c run r name m.before m.is, (ap not (idle_is types c run r name x.found x.is ∙ x.so), tt))))))) refl,
          record {
            same = same_refl types.state c.sites;
            grows = grows_none r.calls;
            keeps = keeps_line number (Some (command.Move name site)) (step.Moved name site) run refl;
            reached = record {
              has = r.has;
              sites = r.sites;
              parts = r.parts;
              calls = r.calls;
              sees = r.sees;
              shown = r.shown;
              own = r.own;
              fuel = idle_fuel types c number (Some (command.Move name site)) (step.Moved name site) run (record { lets = refl; untaken = refl; unchanged = λ h ls p. refl }) r;
              each = each;
              count = r.count ∙ sym m.put.count;
            };
          },
          (tt, tt),
        )
      where
        st : StandsBy run r.calls name m.before
        st = by_name types c run r name m.before m.is

        line : answer ≡ step.Moved name site
        line = m.line ∙ ap (λ n. step.Moved n site) st.name

        next : Run
        next = (record { number = number; command = Some (command.Move name site); step = step.Moved name site }) ∷ run

        mine : StandsBy next r.calls name (moved_to m.before site)
        mine = record {
          name = st.name;
          sites = st.sites;
          parts = st.parts;
          site = cond-true (bytes_eq name name) (Some site) (site_of run name) (own_name name);
          there = sym (site_in types c run r site) ∙ there;
          phase = st.phase;
          few = st.few;
          depends = st.depends;
          holds = m.holds r.calls st.holds;
        }

        each : (who : List ℕ) → StandsAs next r.calls who (session_in sessions who)
        each who = subst (λ x. StandsAs next r.calls who x) (sym (m.put.find who)) (by_bool (bytes_eq name who) refl)
          where
            by_bool : (b : Bool) → bytes_eq name who ≡ b → StandsAs next r.calls who (if b then Some (moved_to m.before site) else session_in c.sessions who)
            by_bool true h = subst (λ n. StandsBy next r.calls n (moved_to m.before site)) ((bytes_eq-Decides name who).0 h) mine
            by_bool false h = stands_still next run r.calls r.calls who (session_in c.sessions who)
                (record { sites = refl; parts = refl; site = cond-false (bytes_eq name who) (Some site) (site_of run who) h; phase = refl; depends = refl })
                (λ x e k. k) (r.each who)

    pub move_place : IsReachedLive types c → holds_site c.sites site ≡ true → (s : SessionState E) → session_in c.sessions name ≡ Some s → (1 ≤ site) × (site ≤ s.sites)
    move_place x there s is =
        let p = and_parts (nat_le 1 site) _ there in
        let st = by_name types c x.run x.reached name s is in
        (leb-true 1 site p.0, subst (λ n. site ≤ n) (x.reached.sites ∙ sym st.sites) (leb-true site c.sites.sites p.1))
