-- What the begin of a transaction comes to.
use Rattle.std.proofs.Common.{◌≡◌, ℕ, Bool, true, false, List, [], ◌∷◌, ◌++◌, cond, refl, sym, ap, ◌∙◌, subst}
use Rattle.std.specs.Prelude.{None}
use Rattle.site_vector.specs.declared.ids.PartId.{PartId}
use Rattle.site_vector.specs.declared.ids.TxId.{TxId}
use Rattle.site_vector.specs.Order.{same_tx_refl}
use Rattle.world_model.specs.declared.step.Step.{Step}
use Rattle.world_model.specs.declared.step.Step.TheVariants as step
use Rattle.world_model.specs.rules.Asking.{asked_by}
use Rattle.world_model.specs.rules.Event.{Ask, AskBegin, Event, Began, Entry, attempt}
use Rattle.world_model.specs.rules.Lines.{step_shown}
use Rattle.world_model.specs.rules.World.{is_begin}
use Rattle.world_model.specs.lines.Lines.{Wish}
use Rattle.txn_session.specs.Calls.{Call, called, caller_of}
use Rattle.txn_session.specs.Numbers.{IsLeast}
use Rattle.txn_session.specs.Session.{Txn, Doing, Idle, Open, SessionState, doing_so, depends}
use Rattle.txn_session.specs.Holds.{Holds, HoldsDoing, Makes}
use Rattle.txn_session.specs.Opens.{IsOpened}
use Rattle.client_pool.specs.declared.outcome.Outcome.TheVariants as outcome
use Rattle.client_pool.specs.Outcomes.{outcome_of}
use Rattle.client_pool.specs.Deeds.{Begins, IsDone}
use Rattle.client_pool.specs.Coming.{IsOfLeast, IsSession, Ready, Came, HasDown}
use Rattle.client_pool.specs.Commits.{place}
use Rattle.client_pool.specs.Begins.{HasBegun}
use Rattle.client_pool.proofs.Answers.{is_done, begin_done}
use Rattle.client_pool.proofs.Coming.{session_same}
use Rattle.client_pool.proofs.Calling.{Called, makes_called}
use Rattle.client_pool.proofs.Asking.{Asks, asked_with, asked_again, asked_once, asked_stopped}

abbrev tx_in : TxId → Step → TxId
tx_in d (step.Began name t s) = t
tx_in d other = d

module _ {E : Type 0} where
  -- only a begin opens
  not_opened : (t u : SessionState E) (answer : Step) → outcome_of answer ≡ outcome.Again → IsOpened t answer u → u ≡ t
  not_opened t u (step.Began name tx s) d is = absurd cc
  not_opened t u other d is = is

  stop_same : (t u : SessionState E) (answer : Step) → outcome_of answer ≡ outcome.Stopped → IsOpened t answer u → u ≡ t
  stop_same t u (step.Began name tx s) d is = absurd cc
  stop_same t u other d is = is

  opened_at : (t u : SessionState E) (answer : Step) (name : List ℕ) (tx : TxId) (v : List ℕ) → answer ≡ step.Began name tx v → IsOpened t answer u → (by : ℕ) × (dep : List ℕ) × (u ≡ doing_so (depends t dep) (Open (record { tx = tx; s = v; by = by; updates = [] })))
  opened_at t u answer name tx v e is = let x = subst (λ a. IsOpened t a u) e is in (x.0, _, x.1)

  caller_first : (c : Call E) (run : List (Call E)) (tx : TxId) → is_begin c.entry.event tx ≡ true → caller_of (c ∷ run) tx ≡ c.by
  caller_first c run tx h = ap (λ b. cond b c.by (caller_of run tx)) h

  module _ {S P : Type 0} (sees : S → P → List (Call E) → Type 0) (numbers : P → ℕ → Bool) (store : S) (old mid pass : P) (s t u : SessionState E) (came : Came sees numbers store old s mid t []) (ts : t ≡ s) (same : (n : ℕ) → numbers pass n ≡ numbers mid n) (idle : s.doing ≡ Idle) (part : ℕ) (wish : Wish) (answer : Step) (is : IsOpened t answer u)
      (h : (run : List (Call E)) → sees store mid run → Holds t run → Makes sees numbers store pass run t u None (place t.site part) (AskBegin t.name wish) answer) where
    begin_asks : Asks sees numbers store mid t pass u (place t.site part) (AskBegin t.name wish) answer
    begin_asks k run least seen holds own = makes_called sees numbers store pass u k least t run None (place t.site part) (AskBegin t.name wish) answer (λ n e. absurd cc) (h run seen holds)

    idle_least : (v : SessionState E) → v ≡ t → IsOfLeast (numbers pass) v.doing
    idle_least v e = subst (IsOfLeast (numbers pass)) (sym (ap (λ (w : SessionState E). w.doing) (e ∙ ts) ∙ idle)) tt

    pub begin_again : outcome_of answer ≡ outcome.Again → (u ≡ t) × Came sees numbers store old s pass u []
    begin_again d = (not_opened t u answer d is, asked_again sees numbers store old mid pass s t u [] came same (place t.site part) (AskBegin t.name wish) answer begin_asks d (λ o. idle_least u (not_opened t u answer d is)))

    pub begin_stopped : outcome_of answer ≡ outcome.Stopped → Ready sees numbers store old s → HasDown sees numbers store pass (place u.site part)
    begin_stopped d r = subst (λ (w : SessionState E). HasDown sees numbers store pass (place w.site part)) (sym (stop_same t u answer d is)) (asked_stopped sees numbers store old mid pass s t u [] came same (place t.site part) (AskBegin t.name wish) answer begin_asks d r)

    pub has_begun : outcome_of answer ≡ outcome.Done → Ready sees numbers store old s → HasBegun sees numbers store old s pass u part
    has_begun d r =
        let at = place t.site part in
        let m = (asked_once sees numbers store old mid pass s t u [] came same at (AskBegin t.name wish) answer begin_asks r).3 in
        let f = begin_done m.before at m.event t.name wish m.asked (ap is_done (ap outcome_of (sym m.shows) ∙ d)) in
        let line : answer ≡ step.Began t.name f.0 f.1 = m.shows ∙ ap (step_shown m.before at) f.2 in
        let o = opened_at t u answer t.name f.0 f.1 line is in
        let txn : Txn E = record { tx = f.0; s = f.1; by = o.0; updates = [] } in
        let opened : u.doing ≡ Open txn = ap (λ (w : SessionState E). w.doing) o.2 in
        record {
          txn = txn;
          opened = opened;
          empty = refl;
          named = subst (λ (w : SessionState E). IsSession w u) ts (record { name = ap (λ (w : SessionState E). w.name) o.2; site = ap (λ (w : SessionState E). w.site) o.2; sites = ap (λ (w : SessionState E). w.sites) o.2; parts = ap (λ (w : SessionState E). w.parts) o.2 });
          came = subst (λ (w : SessionState E). Came sees numbers store old s pass u (Begins (place w.site part) w.name f.0 ∷ [])) ts (asked_with sees numbers store old mid pass s t u [] came same at (AskBegin t.name wish) answer begin_asks d (Begins at t.name f.0) (λ k run least c. own_begin k run least c d f.0 f.1 txn refl opened line));
        }
      where
        own_begin : (k : ℕ) (run : List (Call E)) (least : IsLeast (numbers pass) k) (c : Called sees numbers store pass u k least (place t.site part) (AskBegin t.name wish) answer run) → outcome_of answer ≡ outcome.Done → (tx : TxId) (v : List ℕ) (txn : Txn E) → txn.tx ≡ tx → u.doing ≡ Open txn → answer ≡ step.Began t.name tx v → IsDone (Begins (place t.site part) t.name tx) (place t.site part) c.event × IsOfLeast (numbers pass) u.doing
        own_begin k run least c d tx v txn is_tx opened line =
            let at = place t.site part in
            let b = begin_done c.before at c.event t.name wish c.asked (ap is_done (ap outcome_of (sym c.shows) ∙ d)) in
            let told : answer ≡ step.Began t.name b.0 b.1 = c.shows ∙ ap (step_shown c.before at) b.2 in
            let txs : b.0 ≡ tx = ap (tx_in tx) (sym told ∙ line) in
            let begins : is_begin c.event tx ≡ true = subst (λ x. is_begin c.event x ≡ true) txs (subst (λ e. is_begin e b.0 ≡ true) (sym b.2) (same_tx_refl b.0)) in
            let whole = called c.by at c.event ∷ (c.more ++ run) in
            let holds : HoldsDoing u.sites u.parts u.name u.site whole (Open txn) = subst (HoldsDoing u.sites u.parts u.name u.site whole) opened c.holds.doing in
            let by : txn.by ≡ k = holds.0.caller ∙ (ap (caller_of whole) is_tx ∙ (caller_first (called c.by at c.event) (c.more ++ run) tx begins ∙ c.is)) in
            (subst (λ e. IsDone (Begins at t.name tx) at e) (sym b.2) (refl, refl, txs), subst (IsOfLeast (numbers pass)) (sym opened) (subst (IsLeast (numbers pass)) (sym by) least))
