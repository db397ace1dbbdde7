-- How far the commit of an open transaction has come, and what a step adds.
use Rattle.std.proofs.Common.{◌≡◌, inl, inr, ◌⊎◌, ⊎_elim, ℕ, Bool, true, false, List, [], ◌∷◌, ◌++◌, refl, sym, ap, ◌∙◌, subst}
use Rattle.std.specs.Prelude.{Option, None, Some}
use Rattle.site_vector.specs.Vector.{entry}
use Rattle.site_vector.specs.declared.ids.PartId.{PartId}
use Rattle.world_model.specs.declared.commit.What.{What}
use Rattle.world_model.specs.declared.commit.What.TheVariants as what
use Rattle.world_model.specs.declared.step.Step.{Step}
use Rattle.world_model.specs.commands.CommitSteps.{Going, Preparing, Finishing, Aborting, next_step, after}
use Rattle.world_model.specs.rules.Event.{led_by, Ask, AskPrepare, AskDecide, AskFinish}
use Rattle.clocksi_commit.specs.Commit.{Committing}
use Rattle.txn_session.specs.Calls.{Call}
use Rattle.txn_session.specs.Numbers.{IsLeast}
use Rattle.txn_session.specs.NextPart.{part_asked}
use Rattle.txn_session.specs.Session.{Txn, Doing, Idle, Open, Ending, SessionState, is_open, updates_of, participants, committed_so, ending, answered, doing_so, depends, place_in}
use Rattle.txn_session.specs.Holds.{Holds, Waits, next_of}
use Rattle.txn_session.specs.Opens.{begun_end, stepped, stepped_by, dependency_told}
use Rattle.txn_session.specs.SessionWaits.{StepsLater}
use Rattle.txn_session.specs.Waits.{is_late}
use Rattle.client_pool.specs.declared.outcome.Outcome.TheVariants as outcome
use Rattle.client_pool.specs.Outcomes.{outcome_of}
use Rattle.client_pool.specs.Deeds.{Deed, Prepares, Decides, Finishes}
use Rattle.client_pool.specs.Coming.{IsOfLeast, IsSession, Ready, GoesSo, Came, HasDown}
use Rattle.client_pool.specs.Commits.{place, HasDone, committing, committing_at}
use Rattle.client_pool.proofs.Rows.{one_least, least_same}
use Rattle.client_pool.proofs.Answers.{is_done, prepare_done, decide_done, finish_done}
use Rattle.client_pool.proofs.Coming.{came_none, came_more, session_same, session_next}
use Rattle.client_pool.proofs.Calling.{Called, makes_called, later_called, others_own, others_follow}
use Rattle.client_pool.proofs.Asking.{Asks, asked_done, asked_again, asked_once, asked_stopped, open_txn}
use Rattle.client_pool.proofs.Steps.{some_same, nothing_asked, vote_again, decide_again, finish_again, vote_done, decide_done_on, finish_done_on, voted_more, decided_now, ended_more, all_done}

module _ {E : Type 0} where
  least_ending : (numbers : ℕ → Bool) (site parts : ℕ) (d : Doing E) → IsOfLeast numbers d → IsOfLeast numbers (ending site parts d)
  least_ending numbers site parts Idle l = tt
  least_ending numbers site parts (Open txn) l = l
  least_ending numbers site parts (Ending txn lead commit) l = l

  -- a step leaves the session as it answers
  stepped_so : (b : SessionState E) (line : Step) (w : What) (p : ℕ) → part_asked w ≡ Some p → stepped_by b line w ≡ depends (doing_so b (answered b.doing line)) (dependency_told b.dependency w line)
  stepped_so b line (what.Prepare q) p h = refl
  stepped_so b line (what.Decide q c) p h = refl
  stepped_so b line (what.Finish q c) p h = refl
  stepped_so b line (what.Abort q) p h = refl
  stepped_so b line what.Done p h = absurd cc

  module _ {S P : Type 0} (sees : S → P → List (Call E) → Type 0) (numbers : P → ℕ → Bool) (store : S) where
    -- so far it has come
    pub record Under (old : P) (s : SessionState E) (mid : P) (t : SessionState E) : Type 0 where
      pub txn : Txn E
      pub opened : s.doing ≡ Open txn
      pub deeds : List Deed
      pub came : Came sees numbers store old s mid t deeds
      pub named : IsSession s t
      pub lead : ℕ
      pub commit : Committing
      pub is : ending t.site t.parts t.doing ≡ Ending txn lead commit
      pub done : HasDone s.site txn.tx (participants s.parts txn.updates) commit.going deeds

    pub under_start : (pass : P) (s : SessionState E) → is_open s.doing ≡ true → Under pass s pass s
    under_start pass s h =
        let x = open_txn s.doing h in
        record { txn = x.0; opened = x.1; deeds = []; came = came_none sees numbers store pass s; named = session_same s; lead = _; commit = _; is = ap (ending s.site s.parts) x.1; done = (refl, refl) }

    module _ (shows : ℕ → Type 0) (mid pass : P) (t u : SessionState E) (txn : Txn E) (lead : ℕ) (commit : Committing) (line : Step) (is : ending t.site t.parts t.doing ≡ Ending txn lead commit) where
      abbrev Clause : What → Type 0
      Clause w = (run : List (Call E)) → sees store mid run → Holds t run → StepsLater sees numbers shows store pass run (begun_end t) u line (Ending txn lead commit) w

      by_least : (k : ℕ) → IsLeast (numbers pass) k → IsOfLeast (numbers pass) t.doing → txn.by ≡ k
      by_least k least own = one_least (numbers pass) (numbers pass) k txn.by (λ n. refl) least (subst (IsOfLeast (numbers pass)) is (least_ending (numbers pass) t.site t.parts t.doing own))

      prepare_asks : (p : ℕ) → Clause (what.Prepare p) → Asks sees numbers store mid t pass u (place t.site p) (AskPrepare txn.tx txn.s (led_by lead) (updates_of t.parts txn.updates p)) line
      prepare_asks p h k run least seen holds own = later_called sees numbers store pass u k least (begun_end t) run shows (entry txn.s t.site) txn.by (place t.site p) _ (is_late line) line (by_least k least own) (h run seen holds)

      decide_asks : (p : ℕ) (c : List ℕ) → Clause (what.Decide p c) → Asks sees numbers store mid t pass u (place t.site p) (AskDecide txn.tx c) line
      decide_asks p c h k run least seen holds own = makes_called sees numbers store pass u k least (begun_end t) run (Some txn.by) (place t.site p) (AskDecide txn.tx c) line (λ n e. sym (some_same txn.by n e) ∙ by_least k least own) (h run seen holds)

      finish_asks : (p : ℕ) (c : List ℕ) → Clause (what.Finish p c) → Asks sees numbers store mid t pass u (place t.site p) (AskFinish txn.tx c) line
      finish_asks p c h k run least seen holds own = makes_called sees numbers store pass u k least (begun_end t) run None (place t.site p) (AskFinish txn.tx c) line (λ n e. absurd cc) (h run seen holds)

    module _ (shows : ℕ → Type 0) (old mid pass : P) (s t u : SessionState E) (x : Under old s mid t) (same : (n : ℕ) → numbers pass n ≡ numbers mid n) (line : Step) (part : ℕ) (asks : part_asked (next_of (begun_end t).doing) ≡ Some part) (us : u ≡ stepped (begun_end t) line)
        (h : (run : List (Call E)) → sees store mid run → Holds t run → StepsLater sees numbers shows store pass run (begun_end t) u line (begun_end t).doing (next_of (begun_end t).doing)) (r : Ready sees numbers store old s) where
      u_is : u ≡ depends (doing_so (begun_end t) (answered (begun_end t).doing line)) (dependency_told t.dependency (next_of (begun_end t).doing) line)
      u_is = us ∙ stepped_so (begun_end t) line (next_of (begun_end t).doing) part asks

      u_doing : u.doing ≡ Ending x.txn x.lead (committed_so x.commit (after x.commit.going line).0)
      u_doing = ap (λ (w : SessionState E). w.doing) u_is ∙ ap (λ d. answered d line) x.is

      u_named : IsSession s u
      u_named = session_next s t u x.named (record { name = ap (λ (w : SessionState E). w.name) u_is; site = ap (λ (w : SessionState E). w.site) u_is; sites = ap (λ (w : SessionState E). w.sites) u_is; parts = ap (λ (w : SessionState E). w.parts) u_is })

      own_on : IsOfLeast (numbers pass) t.doing → IsOfLeast (numbers pass) u.doing
      own_on own = subst (IsOfLeast (numbers pass)) (sym u_doing) (subst (IsOfLeast (numbers pass)) x.is (least_ending (numbers pass) t.site t.parts t.doing own))

      clause : Clause shows mid pass t u x.txn x.lead x.commit line x.is (next_of (Ending x.txn x.lead x.commit))
      clause run seen holds = subst (λ d. StepsLater sees numbers shows store pass run (begun_end t) u line d (next_of d)) x.is (h run seen holds)

      asked_part : part_asked (next_of (Ending x.txn x.lead x.commit)) ≡ Some part
      asked_part = subst (λ d. part_asked (next_of d) ≡ Some part) x.is asks

      -- what a step of such a commit leaves
      abbrev Onward : Going → Type 0
      Onward g = (later : List Deed) × Came sees numbers store old s pass u later × HasDone s.site x.txn.tx (participants s.parts x.txn.updates) (after g line).0 later

      abbrev Onwards : Going → Type 0
      Onwards g = Clause shows mid pass t u x.txn x.lead x.commit line x.is (next_step x.commit.site x.commit.s g) → HasDone s.site x.txn.tx (participants s.parts x.txn.updates) g x.deeds → part_asked (next_step x.commit.site x.commit.s g) ≡ Some part → (outcome_of line ≡ outcome.Done) ⊎ (outcome_of line ≡ outcome.Again) → Onward g

      again_so : (g : Going) → (after g line).0 ≡ g → HasDone s.site x.txn.tx (participants s.parts x.txn.updates) g x.deeds → Came sees numbers store old s pass u x.deeds → Onward g
      again_so g e done come = (x.deeds, come, subst (λ y. HasDone s.site x.txn.tx (participants s.parts x.txn.updates) y x.deeds) (sym e) done)

      onward : (g : Going) → Onwards g
      onward (Preparing voted (p ∷ left) n) c done a o =
          let asks = prepare_asks shows mid pass t u x.txn x.lead x.commit line x.is p c in
          let ask : Ask E = AskPrepare x.txn.tx x.txn.s (led_by x.lead) (updates_of t.parts x.txn.updates p) in
          ⊎_elim
          (λ d. (
          let m = asked_once sees numbers store old mid pass s t u x.deeds x.came same (place t.site p) ask line asks r in
          let f = prepare_done m.3.before (place t.site p) m.3.event x.txn.tx x.txn.s (led_by x.lead) (updates_of t.parts x.txn.updates p) m.3.asked (ap is_done (ap outcome_of (sym m.3.shows) ∙ d)) in
          let v = vote_done m.3.before (place t.site p) m.3.event (place t.site p) x.txn.tx voted p left n f in
          let come = asked_done sees numbers store old mid pass s t u x.deeds x.came same (place t.site p) ask line asks d (Prepares (place t.site p) x.txn.tx) (λ before e b y. prepare_done before (place t.site p) e x.txn.tx x.txn.s (led_by x.lead) (updates_of t.parts x.txn.updates p) b y) own_on in
          (Prepares (place s.site p) x.txn.tx ∷ x.deeds, subst (λ k. Came sees numbers store old s pass u (Prepares (place k p) x.txn.tx ∷ x.deeds)) x.named.site come, subst (λ y. HasDone s.site x.txn.tx (participants s.parts x.txn.updates) y (Prepares (place s.site p) x.txn.tx ∷ x.deeds)) (sym (ap (λ l. (after (Preparing voted (p ∷ left) n) l).0) m.3.shows ∙ v.1)) (voted_more s.site x.txn.tx (participants s.parts x.txn.updates) voted p left n v.0 x.deeds done))))
          (λ d. again_so (Preparing voted (p ∷ left) n) (vote_again voted p left n line d) done (asked_again sees numbers store old mid pass s t u x.deeds x.came same (place t.site p) ask line asks d own_on))
          o
      onward (Preparing (first ∷ others) [] n) c done a o =
          let asks = decide_asks shows mid pass t u x.txn x.lead x.commit line x.is first _ c in
          ⊎_elim
          (λ d. (
          let m = asked_once sees numbers store old mid pass s t u x.deeds x.came same (place t.site first) _ line asks r in
          let f = decide_done m.3.before (place t.site first) m.3.event x.txn.tx _ m.3.asked (ap is_done (ap outcome_of (sym m.3.shows) ∙ d)) in
          let v = decide_done_on m.3.before (place t.site first) m.3.event (place t.site first) x.txn.tx first others n f in
          let come = asked_done sees numbers store old mid pass s t u x.deeds x.came same (place t.site first) _ line asks d (Decides (place t.site first) x.txn.tx) (λ before e b y. decide_done before (place t.site first) e x.txn.tx _ b y) own_on in
          (Decides (place s.site first) x.txn.tx ∷ x.deeds, subst (λ k. Came sees numbers store old s pass u (Decides (place k first) x.txn.tx ∷ x.deeds)) x.named.site come, subst (λ y. HasDone s.site x.txn.tx (participants s.parts x.txn.updates) y (Decides (place s.site first) x.txn.tx ∷ x.deeds)) (sym (ap (λ l. (after (Preparing (first ∷ others) [] n) l).0) m.3.shows ∙ v)) (decided_now s.site x.txn.tx (participants s.parts x.txn.updates) first others n n x.deeds done))))
          (λ d. again_so (Preparing (first ∷ others) [] n) (decide_again first others n line d) done (asked_again sees numbers store old mid pass s t u x.deeds x.came same (place t.site first) _ line asks d own_on))
          o
      onward (Finishing (p ∷ left) n) c done a o =
          let asks = finish_asks shows mid pass t u x.txn x.lead x.commit line x.is p _ c in
          ⊎_elim
          (λ d. (
          let m = asked_once sees numbers store old mid pass s t u x.deeds x.came same (place t.site p) _ line asks r in
          let f = finish_done m.3.before (place t.site p) m.3.event x.txn.tx _ m.3.asked (ap is_done (ap outcome_of (sym m.3.shows) ∙ d)) in
          let v = finish_done_on m.3.before (place t.site p) m.3.event (place t.site p) x.txn.tx p left n f in
          let come = asked_done sees numbers store old mid pass s t u x.deeds x.came same (place t.site p) _ line asks d (Finishes (place t.site p) x.txn.tx) (λ before e b y. finish_done before (place t.site p) e x.txn.tx _ b y) own_on in
          (Finishes (place s.site p) x.txn.tx ∷ x.deeds, subst (λ k. Came sees numbers store old s pass u (Finishes (place k p) x.txn.tx ∷ x.deeds)) x.named.site come, subst (λ y. HasDone s.site x.txn.tx (participants s.parts x.txn.updates) y (Finishes (place s.site p) x.txn.tx ∷ x.deeds)) (sym (ap (λ l. (after (Finishing (p ∷ left) n) l).0) m.3.shows ∙ v)) (ended_more s.site x.txn.tx (participants s.parts x.txn.updates) p left n n x.deeds done))))
          (λ d. again_so (Finishing (p ∷ left) n) (finish_again p left n line d) done (asked_again sees numbers store old mid pass s t u x.deeds x.came same (place t.site p) _ line asks d own_on))
          o
      onward (Preparing [] [] n) c done a o = absurd cc
      onward (Finishing [] n) c done a o = absurd cc
      onward (Aborting left) c done a o = absurd done

      abbrev Downs : Going → Type 0
      Downs g = Clause shows mid pass t u x.txn x.lead x.commit line x.is (next_step x.commit.site x.commit.s g) → HasDone s.site x.txn.tx (participants s.parts x.txn.updates) g x.deeds → part_asked (next_step x.commit.site x.commit.s g) ≡ Some part → outcome_of line ≡ outcome.Stopped → HasDown sees numbers store pass (place t.site part)

      downs : (g : Going) → Downs g
      downs (Preparing voted (p ∷ left) n) c done a o = subst (λ q. HasDown sees numbers store pass (place t.site q)) (some_same p part a) (asked_stopped sees numbers store old mid pass s t u x.deeds x.came same (place t.site p) _ line (prepare_asks shows mid pass t u x.txn x.lead x.commit line x.is p c) o r)
      downs (Preparing (first ∷ others) [] n) c done a o = subst (λ q. HasDown sees numbers store pass (place t.site q)) (some_same first part a) (asked_stopped sees numbers store old mid pass s t u x.deeds x.came same (place t.site first) _ line (decide_asks shows mid pass t u x.txn x.lead x.commit line x.is first _ c) o r)
      downs (Finishing (p ∷ left) n) c done a o = subst (λ q. HasDown sees numbers store pass (place t.site q)) (some_same p part a) (asked_stopped sees numbers store old mid pass s t u x.deeds x.came same (place t.site p) _ line (finish_asks shows mid pass t u x.txn x.lead x.commit line x.is p _ c) o r)
      downs (Preparing [] [] n) c done a o = absurd cc
      downs (Finishing [] n) c done a o = absurd cc
      downs (Aborting left) c done a o = absurd done

      pub under_more : (outcome_of line ≡ outcome.Done) ⊎ (outcome_of line ≡ outcome.Again) → Under old s pass u
      under_more o =
          let y = onward x.commit.going clause x.done asked_part o in
          record { txn = x.txn; opened = x.opened; deeds = y.0; came = y.1; named = u_named; lead = x.lead; commit = committed_so x.commit (after x.commit.going line).0; is = ap (ending u.site u.parts) u_doing; done = y.2 }

      pub under_stopped : outcome_of line ≡ outcome.Stopped → HasDown sees numbers store pass (place u.site part)
      under_stopped o = subst (λ k. HasDown sees numbers store pass (place k part)) (sym (ap (λ (w : SessionState E). w.site) u_is)) (downs x.commit.going clause x.done asked_part o)

    -- nothing is left
    pub under_left : (old mid : P) (s t : SessionState E) → Under old s mid t → part_asked (next_of (begun_end t).doing) ≡ None → Came sees numbers store old s mid t (committing s s.doing)
    under_left old mid s t x a =
        let e : next_step x.commit.site x.commit.s x.commit.going ≡ what.Done = ap next_of (sym x.is) ∙ nothing_asked (next_of (begun_end t).doing) a in
        let d = all_done s.site x.txn.tx (participants s.parts x.txn.updates) x.commit.site x.commit.s x.commit.going x.deeds e x.done in
        subst (λ l. Came sees numbers store old s mid t l) (d ∙ sym (ap (committing s) x.opened)) x.came

    -- the end itself asks nobody
    module _ (shows : ℕ → Type 0) (old pass : P) (s u : SessionState E) (line : Step) (same : (n : ℕ) → numbers pass n ≡ numbers old n) (e : next_of (begun_end s).doing ≡ what.Done) (us : u ≡ stepped (begun_end s) line) where
      left_waits : (run : List (Call E)) (d : Doing E) → StepsLater sees numbers shows store pass run (begun_end s) u line d what.Done → Waits sees numbers store pass run (begun_end s) u
      left_waits run Idle h = h
      left_waits run (Open txn) h = h
      left_waits run (Ending txn lead commit) h = h

      end_is : u ≡ doing_so (begun_end s) Idle
      end_is = us ∙ ap (stepped_by (begun_end s) line) e

      pub end_idle : u.doing ≡ Idle
      end_idle = ap (λ (w : SessionState E). w.doing) end_is

      pub end_named : IsSession s u
      end_named = record { name = ap (λ (w : SessionState E). w.name) end_is; site = ap (λ (w : SessionState E). w.site) end_is; sites = ap (λ (w : SessionState E). w.sites) end_is; parts = ap (λ (w : SessionState E). w.parts) end_is }

      pub end_came : ((run : List (Call E)) → sees store old run → Holds s run → StepsLater sees numbers shows store pass run (begun_end s) u line (begun_end s).doing (next_of (begun_end s).doing)) → Came sees numbers store old s pass u []
      end_came h = record {
        same = same;
        goes = λ k run l seen holds own. (
            let w = left_waits run (begun_end s).doing (subst (StepsLater sees numbers shows store pass run (begun_end s) u line (begun_end s).doing) e (h run seen holds)) in
            let held : numbers pass k ≡ true = same k ∙ l.0 in
            record {
              more = w.more;
              apart = others_own (numbers pass) k w.more w.others;
              follows = others_follow (numbers pass) k w.more held w.others;
              seen = w.seen;
              holds = w.holds;
              own = subst (IsOfLeast (numbers pass)) (sym end_idle) tt;
            });
      }
