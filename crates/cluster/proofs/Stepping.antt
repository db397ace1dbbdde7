-- One step of the end of a session's transaction, as its cluster stands after it.
use Rattle.std.proofs.Common.{◌≡◌, ⊎_elim, ℕ, zero, suc, ◌<◌, ◌≤◌, arith, Bool, true, false, List, [], ◌∷◌, ◌++◌, refl, sym, ap, ◌∙◌, subst, Option, None, Some}
use Rattle.std.specs.Prelude.{not, if◌then◌else◌}
use Rattle.std.specs.Str.{bytes_eq}
use Rattle.std.proofs.lemmas.Bool.{true≢false, cond-true, cond-false, cases_Bool}
use Rattle.site_vector.specs.declared.ids.PartId.{PartId}
use Rattle.site_vector.specs.declared.ids.TxId.{TxId}
use Rattle.world_model.specs.lines.Updates as world
use Rattle.world_model.specs.lines.Updates.{change_of}
use Rattle.world_model.specs.declared.command.Command.{Command}
use Rattle.world_model.specs.declared.commit.Next.{Next}
use Rattle.world_model.specs.declared.commit.Next.TheVariants as next
use Rattle.world_model.specs.declared.commit.What.{What}
use Rattle.world_model.specs.declared.commit.What.TheVariants as what
use Rattle.world_model.specs.declared.step.Step.{Step}
use Rattle.world_model.specs.declared.step.Step.TheVariants as step
use Rattle.world_model.specs.commands.Cluster.{parts_of, sites_of}
use Rattle.world_model.specs.commands.CommitSteps.{Going, Preparing, Finishing, Aborting, starting, given_up, next_step, is_done, after}
use Rattle.world_model.specs.rules.Lines.{call_asked}
use Rattle.world_model.specs.events.Dependency.{is_of}
use Rattle.world_model.specs.commands.Phases as phases
use Rattle.world_model.specs.commands.Phases.{phase, phase_after, by_command, going_of, update_total}
use Rattle.world_model.specs.lines.Places.{home}
use Rattle.world_model.specs.commands.Run.{Run}
use Rattle.world_model.specs.commands.ScriptAnswers as script
use Rattle.world_model.specs.commands.ScriptAnswers.{StepsOf, Either, Then, fewer}
use Rattle.world_model.specs.commands.ScriptCalls.{is_answer, for_step, asked_of, calls_of}
use Rattle.world_model.proofs.Names.{off}
use Rattle.clocksi_commit.specs.Commit.{Committing}
use Rattle.txn_session.specs.Calls.{Call, called, entries}
use Rattle.txn_session.specs.Holds.{HoldsTxn, HoldsDoing, MakesStep, TellsStep, Waits, next_of}
use Rattle.txn_session.specs.Opens.{EndsAs, dependency_told, next_said, stepped_by}
use Rattle.txn_session.specs.Session as session
use Rattle.txn_session.specs.Session.{Txn, Doing, Idle, Open, Ending, SessionState, committed_so, participants, first_or_zero, has_step, doing_so, depends, place_in, phase_of, phase_in}
use Rattle.site_partitions.specs.Reaches.{Types}
use Rattle.cluster.specs.declared.commits.Way.{Way}
use Rattle.cluster.specs.declared.commits.Way.TheVariants as way
use Rattle.cluster.specs.Ends.{command_of, turned_to, MayFollow, goes_on, doing_on, on_way, can_go, stops, TakesStep}
use Rattle.site_partitions.specs.Held.{Held}
use Rattle.cluster.specs.Same.{SameCluster}
use Rattle.cluster.specs.Live.{LiveState, session_in, IsPut}
use Rattle.cluster.specs.Reached.{phase_as, StandsBy, StandsAs, ReachedLive, GoesTo}
use Rattle.cluster.proofs.Keeping.{grows_none, keeps_line}
use Rattle.cluster.specs.Faults.{ShowsFault}
use Rattle.cluster.specs.Fuel.{Fueled, TellsCall}
use Rattle.cluster.specs.Sees.{Sees}
use Rattle.cluster.proofs.Doubting.{decided_at}
use Rattle.cluster.proofs.Faulted.{shows_told}
use Rattle.cluster.proofs.Seeing.{told_last}
use Rattle.cluster.proofs.Unchanging.{is_end_ask, lead_stays, end_changes}
use Rattle.cluster.proofs.Ends.{is_step, part_for, step_left, holders_are, end_phase, shown_of, ask_for, end_ask, placed_for, own_for, past_for, depends_for}
use Rattle.cluster.proofs.Meets.{by_name}
use Rattle.cluster.proofs.Sessions.{Turns, Owes, nobody, turns, acted, acted_calls, own_name, same_name}
use Rattle.cluster.proofs.Stages.{size, shrinks, asked_end, of_way, idle_end, IsStage, stage_opened, stage_committing, stage_giving, over_opened}
use Rattle.cluster.proofs.Standing.{stands_still, idle_fuel}
use Rattle.cluster.proofs.Turned.{answer_up}

-- what may come after a step that lets the command go on, or doesn't
abbrev pub Follows : Bool → Way → List ℕ → Run → Option ℕ → List Step → Type 0
Follows true w name run left rest = MayFollow w name run (fewer left) rest
Follows false w name run left rest = rest ≡ []

abbrev is_go : Next → Bool
is_go next.Go = true
is_go next.Stay = false

pub either_true : (A B : Type 0) (b : Bool) → b ≡ true → A → Either b A B
either_true A B true h a = a
either_true A B false h a = off h

pub either_false : (A B : Type 0) (b : Bool) → b ≡ false → B → Either b A B
either_false A B true h x = absurd (true≢false h)
either_false A B false h x = x

go_is : (n : Next) → is_go n ≡ true → n ≡ next.Go
go_is next.Go h = refl
go_is next.Stay h = off h

of_not : (b : Bool) → not b ≡ true → b ≡ false
of_not true h = off h
of_not false h = refl

said_on : (g : Going) (n : Next) → goes_on (phase_in g) n ≡ is_go n
said_on (Preparing voted left k) next.Go = refl
said_on (Preparing voted left k) next.Stay = refl
said_on (Finishing left k) next.Go = refl
said_on (Finishing left k) next.Stay = refl
said_on (Aborting left) next.Go = refl
said_on (Aborting left) next.Stay = refl

no_step : (w : What) → is_step w ≡ false → w ≡ what.Done
no_step (what.Prepare p) h = absurd (true≢false h)
no_step (what.Decide p c) h = absurd (true≢false h)
no_step (what.Finish p c) h = absurd (true≢false h)
no_step (what.Abort p) h = absurd (true≢false h)
no_step what.Done h = refl

module _ {E : Type 0} where
  -- a bound of the steps that are left
  abbrev pub doing_size : Doing E → ℕ
  doing_size (Ending txn lead commit) = size commit.going
  doing_size other = 0

  abbrev pub steps_left : Way → Option (SessionState E) → ℕ
  steps_left w None = 0
  steps_left w (Some s) = doing_size (on_way w s).doing

  stepped_is : (start : SessionState E) (answer : Step) (w : What) → is_step w ≡ true → stepped_by start answer w ≡ depends (doing_so start (session.answered start.doing answer)) (dependency_told start.dependency w answer)
  stepped_is start answer (what.Prepare p) h = refl
  stepped_is start answer (what.Decide p c) h = refl
  stepped_is start answer (what.Finish p c) h = refl
  stepped_is start answer (what.Abort p) h = refl
  stepped_is start answer what.Done h = off h

  next_on : (w : Way) (site parts : ℕ) (txn : Txn E) (lead : ℕ) (commit : Committing) → next_of (doing_on w site parts (Ending txn lead commit)) ≡ next_step commit.site commit.s (turned_to w commit.going)
  next_on way.Commits site parts txn lead commit = refl
  next_on way.GivesUp site parts txn lead commit = refl

  size_on : (w : Way) (site parts : ℕ) (txn : Txn E) (lead : ℕ) (commit : Committing) → doing_size (doing_on w site parts (Ending txn lead commit)) ≡ size (turned_to w commit.going)
  size_on way.Commits site parts txn lead commit = refl
  size_on way.GivesUp site parts txn lead commit = refl

-- what the line of a step tells, its partition's tells
told_at : {E X : Type 0} (tells : X → X → PartId → Step → Type 0) (old new : X) (start : SessionState E) (answer : Step) (w : What) → is_step w ≡ true → TellsStep tells old new start answer w → tells old new (place_in start (part_for w)) answer
told_at tells old new start answer (what.Prepare p) h x = x
told_at tells old new start answer (what.Decide p c) h x = x
told_at tells old new start answer (what.Finish p c) h x = x
told_at tells old new start answer (what.Abort p) h x = x
told_at tells old new start answer what.Done h x = off h

module _ {S E D : Type 0} (types : Types S E D) where
  step_turns : (later : Held E D) (calls : List (Call E)) (start new : SessionState E) (txn : Txn E) (lead : ℕ) (commit : Committing) (answer : Step) (w : What) → is_step w ≡ true
      → MakesStep (λ h (p : Unit {0}) l. Sees types h l) (λ (p : Unit {0}) n. true) later tt calls start new answer (Ending txn lead commit) w
      → Turns types later calls new (place_in start (part_for w)) (ask_for start.parts txn lead w) answer
  step_turns later calls start new txn lead commit answer (what.Prepare p) h m = turns types later tt calls start new (Some txn.by) _ _ answer m
  step_turns later calls start new txn lead commit answer (what.Decide p c) h m = turns types later tt calls start new (Some txn.by) _ _ answer m
  step_turns later calls start new txn lead commit answer (what.Finish p c) h m = turns types later tt calls start new None _ _ answer m
  step_turns later calls start new txn lead commit answer (what.Abort p) h m = turns types later tt calls start new (Some txn.by) _ _ answer m
  step_turns later calls start new txn lead commit answer what.Done h m = off h

  done_sees : (later : Held E D) (calls : List (Call E)) (start new : SessionState E) (answer : Step) (d : Doing E) (w : What) → w ≡ what.Done
      → MakesStep (λ h (p : Unit {0}) l. Sees types h l) (λ (p : Unit {0}) n. true) later tt calls start new answer d w
      → Sees types later calls
  done_sees later calls start new answer d w e m = by_doing d (subst (λ x. MakesStep (λ h (p : Unit {0}) l. Sees types h l) (λ (p : Unit {0}) n. true) later tt calls start new answer d x) e m)
    where
      of_wait : Waits (λ h (p : Unit {0}) l. Sees types h l) (λ (p : Unit {0}) n. true) later tt calls start new → Sees types later calls
      of_wait x = subst (λ more. Sees types later (more ++ calls)) (nobody types x.more x.others) x.seen

      by_doing : (d : Doing E) → MakesStep (λ h (p : Unit {0}) l. Sees types h l) (λ (p : Unit {0}) n. true) later tt calls start new answer d what.Done → Sees types later calls
      by_doing Idle x = of_wait x
      by_doing (Open txn) x = of_wait x
      by_doing (Ending txn lead commit) x = of_wait x

  module _ (c : LiveState E D) (run : Run) (r : ReachedLive types c run) (number : ℕ) (name : List ℕ) (s : SessionState E) (is : session_in c.sessions name ≡ Some s) where
    st : StandsBy run r.calls name s
    st = by_name types c run r name s is

    -- nothing is left: the session is idle
    ended_line : (cmd : Command) (later : Held E D) (sessions : List (List ℕ × SessionState E)) → SameCluster types.state c.sites later → later ≡ c.sites → IsPut c.sessions name (doing_so s Idle) sessions → Sees types later r.calls
        → GoesTo types c run r (record { sites = later; sessions = sessions }) ((record { number = number; command = Some cmd; step = step.Ended name }) ∷ run)
    ended_line cmd later sessions size still put seen = record {
      same = size;
      grows = grows_none r.calls;
      keeps = keeps_line number (Some cmd) (step.Ended name) run refl;
      reached = record {
        has = r.has;
        sites = size.sites_are ∙ r.sites;
        parts = size.parts_are ∙ r.parts;
        calls = r.calls;
        sees = seen;
        shown = r.shown;
        own = r.own;
        fuel = subst (λ (h : Held E D). Fueled types.state h ((record { number = number; command = Some cmd; step = step.Ended name }) ∷ run) (entries r.calls)) (sym still) (idle_fuel types c number (Some cmd) (step.Ended name) run (record { lets = refl; untaken = refl; unchanged = λ h ls p. refl }) r);
        each = each;
        count = r.count ∙ sym put.count;
      };
    }
      where
        after_it : Run
        after_it = (record { number = number; command = Some cmd; step = step.Ended name }) ∷ run

        mine : StandsBy after_it r.calls name (doing_so s Idle)
        mine = record {
          name = st.name;
          sites = st.sites;
          parts = st.parts;
          site = st.site;
          there = st.there;
          phase = cond-true (bytes_eq name name) phases.Idle (phase run name) (own_name name);
          few = omega arith;
          depends = st.depends;
          holds = record { known = st.holds.known; width = st.holds.width; doing = tt };
        }

        each : (who : List ℕ) → StandsAs after_it r.calls who (session_in sessions who)
        each who = subst (λ x. StandsAs after_it r.calls who x) (sym (put.find who)) (of_name (bytes_eq name who) refl)
          where
            of_name : (b : Bool) → bytes_eq name who ≡ b → StandsAs after_it r.calls who (if b then Some (doing_so s Idle) else session_in c.sessions who)
            of_name true h = subst (λ n. StandsBy after_it r.calls n (doing_so s Idle)) (same_name name who h) mine
            of_name false h = stands_still after_it run r.calls r.calls who (session_in c.sessions who) (record { sites = refl; parts = refl; site = refl; phase = cond-false (bytes_eq name who) phases.Idle (phase run who) h; depends = refl }) (λ x e k. k) (r.each who)

    module _ (w : Way) (steps : Option ℕ) (later : Held E D) (sessions : List (List ℕ × SessionState E)) (new : SessionState E) (answer : Step) (goes : Bool) (same : SameCluster types.state c.sites later) (put : IsPut c.sessions name new sessions) (d : TakesStep types c.sites later w answer goes s new r.calls) where
      abbrev start : SessionState E
      start = on_way w s

      abbrev cmd : Command
      cmd = command_of w name steps

      abbrev after_it : Run
      after_it = (record { number = number; command = Some cmd; step = answer }) ∷ run

      -- the line and what follows it answer what is left of the command; the session may go on if the command does
      pub record GoesSo : Type 0 where
        pub reached : GoesTo types c run r (record { sites = later; sessions = sessions }) after_it
        pub follow : (left : Option ℕ) (rest : List Step) → (left ≡ Some 0 → next_of start.doing ≡ what.Done) → Follows goes w name after_it left rest → MayFollow w name run left (answer ∷ rest)
        pub stop : (left : Option ℕ) → goes ≡ true → stops left (Some new) ≡ true → MayFollow w name after_it left []
        pub more : (left : Option ℕ) → goes ≡ true → stops left (Some new) ≡ false → left ≡ Some 0 → next_of (on_way w new).doing ≡ what.Done
        pub can : goes ≡ true → can_go w new.doing ≡ true
        pub less : goes ≡ true → steps_left w (Some new) < steps_left w (Some s)
        pub tells : ShowsFault types.state run c.sites later answer
        pub leads : (u : TxId) → world.lead (parts_of after_it) (calls_of after_it) u ≡ world.lead (parts_of run) (calls_of run) u

      over : ((left : Option ℕ) → MayFollow w name run left (step.Ended name ∷ [])) → next_of start.doing ≡ what.Done → GoesSo
      over lines e = record {
        reached = subst (λ l. GoesTo types c run r (record { sites = later; sessions = sessions }) ((record { number = number; command = Some cmd; step = l }) ∷ run)) (sym said)
            (ended_line cmd later sessions same (subst (TellsStep (TellsCall types) c.sites later start answer) e d.1.tells) (subst (λ y. IsPut c.sessions name y sessions) idle put) (done_sees later r.calls start new answer start.doing (next_of start.doing) e d.1.made));
        follow = λ left rest k f. let none : rest ≡ [] = subst (λ b. Follows b w name after_it left rest) shut f in subst (λ l. MayFollow w name run left l) (λ i. sym said i ∷ sym none i) (lines left);
        stop = λ left h k. absurd (true≢false (sym h ∙ shut));
        more = λ left h k l. absurd (true≢false (sym h ∙ shut));
        can = λ h. absurd (true≢false (sym h ∙ shut));
        less = λ h. absurd (true≢false (sym h ∙ shut));
        tells = subst (ShowsFault types.state run c.sites later) (sym said) tt;
        leads = subst (λ l. (u : TxId) → world.lead (parts_of ((record { number = number; command = Some cmd; step = l }) ∷ run)) (calls_of ((record { number = number; command = Some cmd; step = l }) ∷ run)) u ≡ world.lead (parts_of run) (calls_of run) u) (sym said) (λ u. refl);
      }
        where
          idle : new ≡ doing_so s Idle
          idle = d.1.is ∙ ap (stepped_by start answer) e

          said : answer ≡ step.Ended name
          said = subst (λ x. EndsAs s.name x answer) e d.1.ended ∙ ap step.Ended st.name

          shut : goes ≡ false
          shut = d.0 ∙ ap (λ x. goes_on (phase_of x.doing) (next_said start.doing answer)) idle

      module _ (txn : Txn E) (lead : ℕ) (commit : Committing) (e : start.doing ≡ Ending txn lead commit) (stage : IsStage (parts_of run) w name steps (phase run name) txn commit.going) where
        abbrev asked : What
        asked = next_step commit.site commit.s commit.going

        abbrev gone : Going
        gone = (after commit.going answer).0

        next_is : next_of start.doing ≡ asked
        next_is = ap next_of e

        left_over : is_done commit.going ≡ true → GoesSo
        left_over h = over
            (λ left. stage.lines left (step.Ended name ∷ []) (either_true _ _ (is_done commit.going) h (refl, refl)))
            (next_is ∙ no_step asked (step_left commit.site commit.s commit.going ∙ ap not h))

        module _ (x : HoldsTxn s.sites s.parts s.name s.site txn r.calls) (at_site : commit.site ≡ s.site) (snapshot : commit.s ≡ txn.s) (todo : is_done commit.going ≡ false) where
          asks : is_step asked ≡ true
          asks = step_left commit.site commit.s commit.going ∙ ap not todo

          abbrev place : PartId
          place = place_in start (part_for asked)

          t : Turns types later r.calls new place (ask_for s.parts txn lead asked) answer
          t = step_turns later r.calls start new txn lead commit answer asked asks (subst (λ y. MakesStep (λ h (p : Unit {0}) l. Sees types h l) (λ (p : Unit {0}) n. true) later tt r.calls start new answer y (next_of y)) e d.1.made)

          new_is : new ≡ depends (doing_so s (Ending txn lead (committed_so commit gone))) (dependency_told s.dependency asked answer)
          new_is = d.1.is ∙ (ap (λ y. stepped_by start answer (next_of y)) e ∙ (stepped_is start answer asked asks ∙ ap (λ y. depends (doing_so start (session.answered y answer)) (dependency_told s.dependency asked answer)) e))

          doing_is : new.doing ≡ Ending txn lead (committed_so commit gone)
          doing_is = ap (λ y. y.doing) new_is

          phase_is : phase after_it name ≡ phases.Ending txn.tx txn.s gone
          phase_is = ap (phase_after (parts_of run) name (phase run name) (Some cmd)) t.shows
              ∙ (end_phase (entries r.calls) place t.event (ap is_end_ask t.asked ∙ end_ask s.parts txn lead asked asks) (parts_of run) name (phase run name) (Some cmd)
              ∙ (ap (by_command (parts_of run) name (phase run name) (Some cmd)) (sym t.shows) ∙ stage.by answer))

          goes_is : goes ≡ is_go (after commit.going answer).1
          goes_is = d.0 ∙ ((λ i. goes_on (phase_of (doing_is i)) (next_said (e i) answer)) ∙ said_on gone (after commit.going answer).1)

          go_said : goes ≡ true → (after commit.going answer).1 ≡ next.Go
          go_said h = go_is (after commit.going answer).1 (sym goes_is ∙ h)

          placed : asked_of (calls_of run) run cmd ≡ record { at = place; call = call_asked (ask_for s.parts txn lead asked) }
          placed = asked_end w (calls_of run) run name steps ∙ (stage.placed ∙ ((λ i. for_step txn.tx (next_step ((x.site_is ∙ sym at_site) i) (sym snapshot i) commit.going)) ∙ placed_for s.parts txn lead asked s.site asks x.site_is))

          -- what the line of its call tells
          call_tells : TellsCall types c.sites later place answer
          call_tells = told_at (TellsCall types) c.sites later start answer asked asks (subst (TellsStep (TellsCall types) c.sites later start answer) next_is d.1.tells)

          owed : Owes types c run r number cmd name s is new place (ask_for s.parts txn lead asked) answer later t sessions
          owed = record {
            same = same;
            put = put;
            there = record { name = ap (λ y. y.name) new_is; site = ap (λ y. y.site) new_is; sites = ap (λ y. y.sites) new_is; parts = ap (λ y. y.parts) new_is };
            own = own_for s.parts txn lead (entries r.calls) name asked asks (x.session ∙ st.name);
            of_session = of_way w name steps;
            placed = placed;
            past = past_for s.parts txn lead (sites_of run) (calls_of run) asked;
            told = call_tells;
            idle = λ who h line. idle_end w (parts_of run) name who steps (phase run who) h line;
            few = subst (λ y. update_total (phase_as y) ≤ 256) (sym doing_is) (omega arith);
            phase = phase_is ∙ ap phase_as (sym doing_is);
            depends = ap (λ y. y.dependency) new_is ∙ (ap (dependency_told s.dependency asked) t.shows ∙ depends_for s.parts txn lead (entries r.calls) place asked asks t.event t.asked (sites_of run) name s.dependency of_name);
          }
            where
              of_name : is_of (entries r.calls) name txn.tx ≡ true
              of_name = subst (λ n. is_of (entries r.calls) n txn.tx ≡ true) st.name (shown_of (entries r.calls) (home txn.tx) s.name x.handed txn.tx txn.s x.shown)

          now_reached : GoesTo types c run r (record { sites = later; sessions = sessions }) after_it
          now_reached = acted types c run r number cmd name s is new place (ask_for s.parts txn lead asked) answer later t sessions owed

          leads_stay : (u : TxId) → world.lead (parts_of after_it) (calls_of after_it) u ≡ world.lead (parts_of run) (calls_of run) u
          leads_stay u = (λ i. world.lead ((sym now_reached.reached.parts ∙ (same.parts_are ∙ r.parts)) i) (acted_calls types c run r number cmd name s is new place (ask_for s.parts txn lead asked) answer later t sessions owed i) u)
              ∙ lead_stays (parts_of run) (calls_of run) place (call_asked (ask_for s.parts txn lead asked)) answer (λ time index v. ap (λ l. change_of place time index (call_asked (ask_for s.parts txn lead asked)) l v) t.shows ∙ end_changes (entries r.calls) place t.event (ap is_end_ask t.asked ∙ end_ask s.parts txn lead asked asks) place time index (call_asked (ask_for s.parts txn lead asked)) v) u

          -- what may come after the line, where it stands so
          may_now : (left : Option ℕ) (rest : List Step) → script.Steps name (turned_to w gone) left rest → MayFollow w name after_it left rest
          may_now left rest h = subst (λ p. StepsOf name (going_of (parts_of after_it) p) (turned_to w) left rest) (sym phase_is) h

          then_so : (left : Option ℕ) (rest : List Step) (n : Next) → (after commit.going answer).1 ≡ n → (b : Bool) → b ≡ is_go n → Follows b w name after_it left rest → Then n (rest ≡ []) (script.Steps name gone (fewer left) rest)
          then_so left rest next.Go k true h f = subst (λ g. script.Steps name g (fewer left) rest) (stage.again answer) (subst (λ p. StepsOf name (going_of (parts_of after_it) p) (turned_to w) (fewer left) rest) phase_is f)
          then_so left rest next.Go k false h f = absurd (true≢false (sym h))
          then_so left rest next.Stay k true h f = absurd (true≢false h)
          then_so left rest next.Stay k false h f = f

          up : is_answer answer ≡ true
          up = answer_up (entries r.calls) place t.event answer t.shows (told_last types later (called t.by place t.event) r.calls t.seen)

          -- a decide in doubt was asked of the lead
          led : (u : TxId) → answer ≡ step.Unsure u → world.lead (parts_of run) (calls_of run) u ≡ place
          led u k = decided_at types c run r later same place t.by t.event t.seen u (sym t.shows ∙ k)

          tells : ShowsFault types.state run c.sites later answer
          tells = shows_told types.state run c.sites later place answer call_tells.0 led

          counted : (left : Option ℕ) → (left ≡ Some 0 → next_of start.doing ≡ what.Done) → left ≡ Some 0 → ⊥
          counted left k z = true≢false (sym asks ∙ ap is_step (sym next_is ∙ k z))

          stop_so : (left : Option ℕ) → stops left (Some new) ≡ true → MayFollow w name after_it left []
          stop_so None h = off h
          stop_so (Some zero) h = may_now (Some 0) [] (ap is_done (stage.again answer) ∙ of_not (is_done gone) (sym (ap has_step doing_is) ∙ h), refl)
          stop_so (Some (suc k)) h = off h

          more_so : (left : Option ℕ) → stops left (Some new) ≡ false → left ≡ Some 0 → next_of (on_way w new).doing ≡ what.Done
          more_so left h z = ap (λ y. next_of (doing_on w new.site new.parts y)) doing_is
              ∙ (next_on w new.site new.parts txn lead (committed_so commit gone)
              ∙ (ap (next_step commit.site commit.s) (stage.again answer)
              ∙ no_step (next_step commit.site commit.s gone) (step_left commit.site commit.s gone ∙ (sym (ap has_step doing_is) ∙ subst (λ l. stops l (Some new) ≡ false) z h))))

          going_on : GoesSo
          going_on = record {
            reached = now_reached;
            follow = λ left rest k f. stage.lines left (answer ∷ rest) (either_false _ _ (is_done commit.going) todo (counted left k, up, then_so left rest (after commit.going answer).1 refl goes goes_is f));
            stop = λ left h k. stop_so left k;
            more = λ left h k z. more_so left k z;
            can = λ h. ap (can_go w) doing_is ∙ stage.can answer lead commit;
            less = λ h. subst (λ n. n < steps_left w (Some s)) (sym (ap (λ y. doing_size (doing_on w new.site new.parts y)) doing_is ∙ (size_on w new.site new.parts txn lead (committed_so commit gone) ∙ ap size (stage.again answer))))
                (subst (λ n. size gone < n) (sym (ap doing_size e)) (shrinks commit.going answer todo (go_said h)));
            tells = tells;
            leads = leads_stay;
          }

      -- the transaction, and its commit as the command takes it up
      from_txn : (txn : Txn E) (lead : ℕ) (commit : Committing) → start.doing ≡ Ending txn lead commit → IsStage (parts_of run) w name steps (phase run name) txn commit.going → HoldsTxn s.sites s.parts s.name s.site txn r.calls → commit.site ≡ s.site → commit.s ≡ txn.s → GoesSo
      from_txn txn lead commit e stage x at_site snapshot = ⊎_elim
          (λ (h : is_done commit.going ≡ true). left_over txn lead commit e stage h)
          (λ (h : is_done commit.going ≡ false). going_on txn lead commit e stage x at_site snapshot h)
          (cases_Bool (is_done commit.going))

      stage_at : (x : Way) (doing : Doing E) (txn : Txn E) (g : Going) → w ≡ x → s.doing ≡ doing → IsStage (parts_of run) x name steps (phase_as doing) txn g → IsStage (parts_of run) w name steps (phase run name) txn g
      stage_at x doing txn g e k stage = subst (λ y. IsStage (parts_of run) y name steps (phase run name) txn g) (sym e) (subst (λ p. IsStage (parts_of run) x name steps p txn g) (sym (st.phase ∙ ap phase_as k)) stage)

      start_at : (x : Way) (doing : Doing E) → w ≡ x → s.doing ≡ doing → start.doing ≡ doing_on x s.site s.parts doing
      start_at x doing e k = λ i. doing_on (e i) s.site s.parts (k i)

      by_way : (x : Way) → w ≡ x → (doing : Doing E) → s.doing ≡ doing → can_go x doing ≡ true → HoldsDoing s.sites s.parts s.name s.site r.calls doing → GoesSo
      by_way way.Commits e Idle k h x = off h
      by_way way.Commits e (Open txn) k h x = from_txn txn (first_or_zero (participants s.parts txn.updates)) (record { site = s.site; s = txn.s; going = starting (participants s.parts txn.updates) })
          (start_at way.Commits (Open txn) e k)
          (stage_at way.Commits (Open txn) txn _ e k (stage_opened (parts_of run) name steps txn _ (ap starting (holders_are (parts_of run) txn.updates ∙ ap (λ n. participants n txn.updates) (sym st.parts)))))
          x.0 refl refl
      by_way way.Commits e (Ending txn lead commit) k h x = from_txn txn lead commit (start_at way.Commits (Ending txn lead commit) e k) (stage_at way.Commits (Ending txn lead commit) txn _ e k (stage_committing (parts_of run) name steps txn commit.going)) x.0 x.1.at_site x.1.snapshot
      by_way way.GivesUp e Idle k h x = off h
      by_way way.GivesUp e (Open txn) k h x = over
          (λ left. subst (λ y. StepsOf name (going_of (parts_of run) (phase run name)) (turned_to y) left (step.Ended name ∷ [])) (sym e)
          (subst (λ p. StepsOf name (going_of (parts_of run) p) given_up left (step.Ended name ∷ [])) (sym (st.phase ∙ ap phase_as k)) (over_opened (parts_of run) name steps txn left)))
          (ap next_of (start_at way.GivesUp (Open txn) e k))
      by_way way.GivesUp e (Ending txn lead commit) k h x = from_txn txn lead (committed_so commit (given_up commit.going)) (start_at way.GivesUp (Ending txn lead commit) e k) (stage_at way.GivesUp (Ending txn lead commit) txn _ e k (stage_giving (parts_of run) name steps txn commit.going h)) x.0 x.1.at_site x.1.snapshot

      pub one_step : can_go w s.doing ≡ true → GoesSo
      one_step h = by_way w refl s.doing refl h st.holds.doing
