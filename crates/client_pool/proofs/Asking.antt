-- What a call that a session asks adds to what it came to before.
use Rattle.std.proofs.Common.{◌≡◌, ℕ, Bool, true, false, List, [], ◌∷◌, refl, sym, ap, ◌∙◌, subst}
use Rattle.std.specs.Prelude.{Option}
use Rattle.site_vector.specs.Vector.{entry}
use Rattle.site_vector.specs.declared.ids.PartId.{PartId}
use Rattle.site_vector.specs.declared.ids.TxId.{TxId}
use Rattle.crdt_core.specs.declared.object.ObjectId.{ObjectId}
use Rattle.crdt_core.specs.declared.operation.Op.{Op}
use Rattle.world_model.specs.declared.step.Step.{Step}
use Rattle.world_model.specs.declared.step.Step.TheVariants as step
use Rattle.world_model.specs.rules.Asking.{asked_by}
use Rattle.world_model.specs.rules.Event.{Ask, AskRead, AskUpdate, Event, Updated, Entry, attempt}
use Rattle.world_model.specs.rules.Lines.{step_shown}
use Rattle.txn_session.specs.Calls.{Call}
use Rattle.txn_session.specs.Numbers.{IsLeast}
use Rattle.txn_session.specs.Session.{Txn, Doing, Idle, Open, Ending, SessionState, is_open, own_updates, doing_so}
use Rattle.txn_session.specs.Holds.{Holds, MakesRead, MakesUpdate}
use Rattle.txn_session.specs.Opens.{IsUpdated, updated}
use Rattle.txn_session.specs.Waits.{is_late, Later}
use Rattle.txn_session.specs.SessionWaits.{ReadsLater, UpdatesLater}
use Rattle.client_pool.specs.declared.outcome.Outcome.TheVariants as outcome
use Rattle.client_pool.specs.Outcomes.{outcome_of}
use Rattle.client_pool.specs.Deeds.{Deed, Reads, Updates, IsDone}
use Rattle.client_pool.specs.Coming.{IsOfLeast, IsSession, Ready, GoesSo, Came, HasDown}
use Rattle.client_pool.specs.Sessions.{place_for, reading, updating, HasUpdated}
use Rattle.client_pool.proofs.Rows.{one_least, least_same}
use Rattle.client_pool.proofs.Answers.{is_done, is_again, read_done, update_done}
use Rattle.client_pool.proofs.Coming.{of_least_same, came_more, ready_next}
use Rattle.client_pool.proofs.Calling.{Called, later_called, called_done, called_again, called_stopped}

pub open_txn : {E : Type 0} (d : Doing E) → is_open d ≡ true → (txn : Txn E) × (d ≡ Open txn)
open_txn (Open txn) h = (txn, refl)
open_txn Idle h = absurd cc
open_txn (Ending txn lead commit) h = absurd cc

-- what an answer to an update leaves of the session
module _ {E : Type 0} where
  pub updated_least : (numbers : ℕ → Bool) (d : Doing E) (o : ObjectId) (effect : E) → IsOfLeast numbers d → IsOfLeast numbers (updated d o effect)
  updated_least numbers Idle o effect l = tt
  updated_least numbers (Open txn) o effect l = l
  updated_least numbers (Ending txn lead commit) o effect l = l

  not_updated : (t u : SessionState E) (o : ObjectId) (answer : Step) → outcome_of answer ≡ outcome.Again → IsUpdated t o answer u → u ≡ t
  not_updated t u o (step.Updated name object stamp) d is = absurd cc
  not_updated t u o other d is = is

  stop_same : (t u : SessionState E) (o : ObjectId) (answer : Step) → outcome_of answer ≡ outcome.Stopped → IsUpdated t o answer u → u ≡ t
  stop_same t u o (step.Updated name object stamp) d is = absurd cc
  stop_same t u o other d is = is

  updated_line : (before : List (Entry E)) (at : PartId) (e : Event E) (tx : TxId) (o : ObjectId) (op : Op) → IsDone (Updates tx o op) at e → (name : List ℕ) × (object : ObjectId) × (stamp : Option ℕ) × (step_shown before at e ≡ step.Updated name object stamp)
  updated_line before at (Updated u s object own asked read x stamp) tx o op h = (_, _, _, refl)
  updated_line before at other tx o op h = absurd h

  is_updated : (t u : SessionState E) (o : ObjectId) (answer : Step) (name : List ℕ) (object : ObjectId) (stamp : Option ℕ) → answer ≡ step.Updated name object stamp → IsUpdated t o answer u → HasUpdated t o u
  is_updated t u o answer name object stamp e is = subst (λ x. IsUpdated t o x u) e is

-- a call of a store that calls leave as it is
pub clause_here : {E S P : Type 0} (sees : S → P → List (Call E) → Type 0) (Q : S → List (Call E) → Type 0) (store held now : S) (pass : P) (s : SessionState E) → held ≡ store → now ≡ held → ((run : List (Call E)) → sees held pass run → Holds s run → Q now run) → (run : List (Call E)) → sees store pass run → Holds s run → Q store run
clause_here sees Q store held now pass s is stays h run seen holds = subst (λ w. Q w run) (stays ∙ is) (h run (subst (λ w. sees w pass run) (sym is) seen) holds)

module _ {E S P : Type 0} (sees : S → P → List (Call E) → Type 0) (numbers : P → ℕ → Bool) (store : S) where
  -- whatever the pass had seen goes on by this call
  abbrev pub Asks : P → SessionState E → P → SessionState E → PartId → Ask E → Step → Type 0
  Asks mid t pass u at ask answer = (k : ℕ) (run : List (Call E)) (least : IsLeast (numbers pass) k) → sees store mid run → Holds t run → IsOfLeast (numbers pass) t.doing → Called sees numbers store pass u k least at ask answer run

  module _ (old mid pass : P) (s t u : SessionState E) (deeds : List Deed) (came : Came sees numbers store old s mid t deeds) (same : (n : ℕ) → numbers pass n ≡ numbers mid n) (at : PartId) (ask : Ask E) (answer : Step) (asks : Asks mid t pass u at ask answer) where
    asked_so : (later : List Deed) → ((k : ℕ) (run : List (Call E)) (least : IsLeast (numbers pass) k) → IsOfLeast (numbers pass) t.doing → Called sees numbers store pass u k least at ask answer run → GoesSo sees numbers store pass u k later run) → Came sees numbers store mid t pass u later
    asked_so later f = record {
      same = same;
      goes = λ k run l seen holds own. (
          let least = least_same (numbers mid) (numbers pass) k same l in
          let own' = of_least_same (numbers mid) (numbers pass) t.doing same own in
          f k run least own' (asks k run least seen holds own'));
    }

    pub asked_done : outcome_of answer ≡ outcome.Done → (d : Deed) → ((before : List (Entry E)) (e : Event E) → asked_by (attempt e) ≡ ask → is_done (outcome_of (step_shown before at e)) ≡ true → IsDone d at e) → (IsOfLeast (numbers pass) t.doing → IsOfLeast (numbers pass) u.doing) → Came sees numbers store old s pass u (d ∷ deeds)
    asked_done h d fits own = came_more sees numbers store old mid pass s t u deeds (d ∷ []) came (asked_so (d ∷ []) (λ k run least o c. called_done sees numbers store pass u k least at ask answer run c d (fits c.before c.event c.asked (ap is_done (ap outcome_of (sym c.shows) ∙ h))) (own o)))

    -- where what is done tells whose transaction it is
    pub asked_with : outcome_of answer ≡ outcome.Done → (d : Deed) → ((k : ℕ) (run : List (Call E)) (least : IsLeast (numbers pass) k) (c : Called sees numbers store pass u k least at ask answer run) → IsDone d at c.event × IsOfLeast (numbers pass) u.doing) → Came sees numbers store old s pass u (d ∷ deeds)
    asked_with h d f = came_more sees numbers store old mid pass s t u deeds (d ∷ []) came (asked_so (d ∷ []) (λ k run least o c. (let x = f k run least c in called_done sees numbers store pass u k least at ask answer run c d x.0 x.1)))

    pub asked_again : outcome_of answer ≡ outcome.Again → (IsOfLeast (numbers pass) t.doing → IsOfLeast (numbers pass) u.doing) → Came sees numbers store old s pass u deeds
    asked_again h own = came_more sees numbers store old mid pass s t u deeds [] came (asked_so [] (λ k run least o c. called_again sees numbers store pass u k least at ask answer run c h (own o)))

    pub asked_once : Ready sees numbers store old s → (k : ℕ) × (run : List (Call E)) × (least : IsLeast (numbers pass) k) × Called sees numbers store pass u k least at ask answer run
    asked_once r =
        let m = ready_next sees numbers store old mid s t deeds r came in
        let least = least_same (numbers mid) (numbers pass) m.number same m.is_least in
        (m.number, m.run, least, asks m.number m.run least m.seen m.holds (of_least_same (numbers mid) (numbers pass) t.doing same m.own))

    pub asked_stopped : outcome_of answer ≡ outcome.Stopped → Ready sees numbers store old s → HasDown sees numbers store pass at
    asked_stopped h r = let c = asked_once r in called_stopped sees numbers store pass u c.0 c.2 at ask answer c.1 c.3 h

  -- reads
  module _ (shows : ℕ → Type 0) (mid pass : P) (t u : SessionState E) (o : ObjectId) (answer : Step) (txn : Txn E) (is : t.doing ≡ Open txn) where
    txn_least : (k : ℕ) → IsLeast (numbers pass) k → IsOfLeast (numbers pass) t.doing → txn.by ≡ k
    txn_least k least own = one_least (numbers pass) (numbers pass) k txn.by (λ n. refl) least (subst (IsOfLeast (numbers pass)) is own)

    pub reads_asks : ((run : List (Call E)) → sees store mid run → Holds t run → ReadsLater sees numbers shows store pass run t u o answer t.doing) → Asks mid t pass u (place_for t o) (AskRead txn.tx txn.s o (own_updates txn.updates o)) answer
    reads_asks h k run least seen holds own =
        let at = place_for t o in
        let ask : Ask E = AskRead txn.tx txn.s o (own_updates txn.updates o) in
        let x = subst (ReadsLater sees numbers shows store pass run t u o answer) is (h run seen holds) in
        let y = subst (λ d. Later (numbers pass) shows (entry txn.s at.site) txn.by at ask (is_late answer) (λ rest. MakesRead sees numbers store pass rest t u o answer d) run) is x in
        later_called sees numbers store pass u k least t run shows (entry txn.s at.site) txn.by at ask (is_late answer) answer (txn_least k least own) y

    pub updates_asks : (op : Op) → ((run : List (Call E)) → sees store mid run → Holds t run → UpdatesLater sees numbers shows store pass run t u o op answer t.doing) → Asks mid t pass u (place_for t o) (AskUpdate txn.tx txn.s o (own_updates txn.updates o) op) answer
    updates_asks op h k run least seen holds own =
        let at = place_for t o in
        let ask : Ask E = AskUpdate txn.tx txn.s o (own_updates txn.updates o) op in
        let x = subst (UpdatesLater sees numbers shows store pass run t u o op answer) is (h run seen holds) in
        let y = subst (λ d. Later (numbers pass) shows (entry txn.s at.site) txn.by at ask (is_late answer) (λ rest. MakesUpdate sees numbers store pass rest t u o op answer d) run) is x in
        later_called sees numbers store pass u k least t run shows (entry txn.s at.site) txn.by at ask (is_late answer) answer (txn_least k least own) y

  -- a read until it is done
  module _ (shows : ℕ → Type 0) (old mid pass : P) (s t u : SessionState E) (came : Came sees numbers store old s mid t []) (ts : t ≡ s) (ut : u ≡ t) (opened : is_open s.doing ≡ true) (same : (n : ℕ) → numbers pass n ≡ numbers mid n) (o : ObjectId) (answer : Step)
      (h : (run : List (Call E)) → sees store mid run → Holds t run → ReadsLater sees numbers shows store pass run t u o answer t.doing) where
    of_least : IsOfLeast (numbers pass) t.doing → IsOfLeast (numbers pass) u.doing
    of_least own = subst (λ (x : SessionState E). IsOfLeast (numbers pass) x.doing) (sym ut) own

    in_txn : (txn : Txn E) × (t.doing ≡ Open txn)
    in_txn = let x = open_txn s.doing opened in (x.0, ap (λ (x : SessionState E). x.doing) ts ∙ x.1)

    pub read_ends : outcome_of answer ≡ outcome.Done → Came sees numbers store old s pass u (reading s.doing o)
    read_ends d =
        let x = in_txn in let txn = x.0 in
        let done = asked_done old mid pass s t u [] came same (place_for t o) (AskRead txn.tx txn.s o (own_updates txn.updates o)) answer (reads_asks shows mid pass t u o answer txn x.1 h) d (Reads txn.tx o)
        (λ before e a y. read_done before (place_for t o) e txn.tx txn.s o (own_updates txn.updates o) a y) of_least in
        let e : reading s.doing o ≡ Reads txn.tx o ∷ [] = ap (λ d. reading d o) (ap (λ (x : SessionState E). x.doing) (sym ts) ∙ x.1) in
        subst (λ l. Came sees numbers store old s pass u l) (sym e) done

    pub read_again : outcome_of answer ≡ outcome.Again → Came sees numbers store old s pass u []
    read_again d = let x = in_txn in let txn = x.0 in asked_again old mid pass s t u [] came same (place_for t o) (AskRead txn.tx txn.s o (own_updates txn.updates o)) answer (reads_asks shows mid pass t u o answer txn x.1 h) d of_least

    pub read_stopped : outcome_of answer ≡ outcome.Stopped → Ready sees numbers store old s → HasDown sees numbers store pass (place_for u o)
    read_stopped d r =
        let x = in_txn in let txn = x.0 in
        let down = asked_stopped old mid pass s t u [] came same (place_for t o) (AskRead txn.tx txn.s o (own_updates txn.updates o)) answer (reads_asks shows mid pass t u o answer txn x.1 h) d r in
        subst (λ (w : SessionState E). HasDown sees numbers store pass (place_for w o)) (sym ut) down

  -- an update until it is done
  module _ (shows : ℕ → Type 0) (old mid pass : P) (s t u : SessionState E) (came : Came sees numbers store old s mid t []) (ts : t ≡ s) (opened : is_open s.doing ≡ true) (same : (n : ℕ) → numbers pass n ≡ numbers mid n) (o : ObjectId) (op : Op) (answer : Step) (is : IsUpdated t o answer u)
      (h : (run : List (Call E)) → sees store mid run → Holds t run → UpdatesLater sees numbers shows store pass run t u o op answer t.doing) where
    to_txn : (txn : Txn E) × (t.doing ≡ Open txn)
    to_txn = let x = open_txn s.doing opened in (x.0, ap (λ (x : SessionState E). x.doing) ts ∙ x.1)

    least_on : IsOfLeast (numbers pass) t.doing → IsOfLeast (numbers pass) u.doing
    least_on own = by_answer answer is
      where
        by_answer : (answer : Step) → IsUpdated t o answer u → IsOfLeast (numbers pass) u.doing
        by_answer (step.Updated name object stamp) x = subst (λ (w : SessionState E). IsOfLeast (numbers pass) w.doing) (sym x.1) (updated_least (numbers pass) t.doing o x.0 own)
        by_answer other x = subst (λ (w : SessionState E). IsOfLeast (numbers pass) w.doing) (sym x) own

    pub update_ends : outcome_of answer ≡ outcome.Done → Came sees numbers store old s pass u (updating s.doing o op)
    update_ends d =
        let x = to_txn in let txn = x.0 in
        let done = asked_done old mid pass s t u [] came same (place_for t o) (AskUpdate txn.tx txn.s o (own_updates txn.updates o) op) answer (updates_asks shows mid pass t u o answer txn x.1 op h) d (Updates txn.tx o op)
        (λ before e a y. update_done before (place_for t o) e txn.tx txn.s o (own_updates txn.updates o) op a y) least_on in
        let e : updating s.doing o op ≡ Updates txn.tx o op ∷ [] = ap (λ d. updating d o op) (ap (λ (x : SessionState E). x.doing) (sym ts) ∙ x.1) in
        subst (λ l. Came sees numbers store old s pass u l) (sym e) done

    pub update_again : outcome_of answer ≡ outcome.Again → (u ≡ t) × Came sees numbers store old s pass u []
    update_again d =
        let x = to_txn in let txn = x.0 in
        (not_updated t u o answer d is, asked_again old mid pass s t u [] came same (place_for t o) (AskUpdate txn.tx txn.s o (own_updates txn.updates o) op) answer (updates_asks shows mid pass t u o answer txn x.1 op h) d least_on)

    pub update_stopped : outcome_of answer ≡ outcome.Stopped → Ready sees numbers store old s → HasDown sees numbers store pass (place_for u o)
    update_stopped d r =
        let x = to_txn in let txn = x.0 in
        let down = asked_stopped old mid pass s t u [] came same (place_for t o) (AskUpdate txn.tx txn.s o (own_updates txn.updates o) op) answer (updates_asks shows mid pass t u o answer txn x.1 op h) d r in
        subst (λ (w : SessionState E). HasDown sees numbers store pass (place_for w o)) (sym (stop_same t u o answer d is)) down

    -- the session has it
    pub update_kept : outcome_of answer ≡ outcome.Done → Ready sees numbers store old s → HasUpdated s o u
    update_kept d r =
        let x = to_txn in let txn = x.0 in
        let c = asked_once old mid pass s t u [] came same (place_for t o) (AskUpdate txn.tx txn.s o (own_updates txn.updates o) op) answer (updates_asks shows mid pass t u o answer txn x.1 op h) r in
        let f = update_done c.3.before (place_for t o) c.3.event txn.tx txn.s o (own_updates txn.updates o) op c.3.asked (ap is_done (ap outcome_of (sym c.3.shows) ∙ d)) in
        let line = updated_line c.3.before (place_for t o) c.3.event txn.tx o op f in
        let now = is_updated t u o answer line.0 line.1 line.2 (c.3.shows ∙ line.3) is in
        subst (λ (w : SessionState E). HasUpdated w o u) ts now
