-- What one call of a session comes to.
use Rattle.std.proofs.Common.{◌≡◌, inl, inr, ⊎_elim, ℕ, Bool, true, false, List, [], ◌∷◌, ◌++◌, refl, sym, ap, ◌∙◌, subst, append_assoc, append-nil, ◌⊎◌}
use Rattle.std.specs.Prelude.{Option, None, Some, ⊤}
use Rattle.std.proofs.lemmas.Bool.{true≢false, or_left, or_right}
use Rattle.site_vector.specs.declared.ids.PartId.{PartId}
use Rattle.world_model.specs.declared.step.Step.{Step}
use Rattle.world_model.specs.rules.Asking.{asked_by}
use Rattle.world_model.specs.rules.Event.{Ask, AskTick, Event, Entry, Refused, Refusal, ClockBehind, TxPending, attempt}
use Rattle.world_model.specs.rules.Lines.{step_shown}
use Rattle.txn_session.specs.Calls.{Call, called, entries, NoneBears, GoesOn}
use Rattle.txn_session.specs.Numbers.{IsLeast, Bears, made_by}
use Rattle.txn_session.specs.Session.{Doing, SessionState}
use Rattle.txn_session.specs.Holds.{Holds, Makes}
use Rattle.txn_session.specs.Waits.{is_wait, IsOwnTick, IsPutOff, ArePauses, Later}
use Rattle.client_pool.specs.declared.outcome.Outcome.{Outcome}
use Rattle.client_pool.specs.declared.outcome.Outcome.TheVariants.{Done, Again, Stopped}
use Rattle.client_pool.specs.Outcomes.{outcome_of}
use Rattle.client_pool.specs.Deeds.{Deed, Follows, IsDone, is_aside, is_put_off, is_between, is_stop, may_pass, HasStopped}
use Rattle.client_pool.specs.Coming.{AreOwn, IsOfLeast, GoesSo, HasDown}
use Rattle.client_pool.proofs.Rows.{one_least, made_own, made_other}
use Rattle.client_pool.proofs.Answers.{again_between, stopped_stop}
use Rattle.client_pool.proofs.Coming.{made_append, follows_append, own_append}

wait_passes : (why : Refusal) → is_wait why ≡ true → may_pass why ≡ true
wait_passes (ClockBehind n) h = refl
wait_passes (TxPending t n) h = refl
wait_passes other h = absurd cc

-- the number that a call bears is the least, where it is handed that or none
pub bears_least : (numbers : ℕ → Bool) (number : Option ℕ) (by k : ℕ) → IsLeast numbers k → ((n : ℕ) → number ≡ Some n → n ≡ k) → Bears numbers number by → by ≡ k
bears_least numbers None by k least given b = one_least numbers numbers k by (λ n. refl) least b
bears_least numbers (Some n) by k least given b = b ∙ given n refl

module _ {E : Type 0} where
  tick_between : (e : Event E) (r : ℕ) → asked_by (attempt e) ≡ AskTick r → is_between e ≡ true
  tick_between e r a = or_left (is_aside (asked_by (attempt e))) (is_put_off e) (ap is_aside a)

  wait_between : (e : Event E) (ask : Ask E) (why : Refusal) → e ≡ Refused ask why → is_wait why ≡ true → is_between e ≡ true
  wait_between e ask why is w = or_right (is_aside (asked_by (attempt e))) (is_put_off e) (ap is_put_off is ∙ wait_passes why w)

  -- others' calls do nothing by k
  pub others_own : (numbers : ℕ → Bool) (k : ℕ) (more : List (Call E)) → NoneBears numbers more → AreOwn numbers k more
  others_own numbers k [] h = tt
  others_own numbers k (c ∷ more) h = (inr h.0, others_own numbers k more h.1)

  other_follows : (numbers : ℕ → Bool) (k : ℕ) (deeds : List Deed) (c : Call E) (more : List (Call E)) → numbers k ≡ true → numbers c.by ≡ false → Follows deeds (made_by k more) → Follows deeds (made_by k (c ∷ more))
  other_follows numbers k deeds c more held h f = subst (Follows deeds) (sym (made_other k c more (λ e. true≢false (sym held ∙ (sym (ap numbers e) ∙ h))))) f

  pub others_follow : (numbers : ℕ → Bool) (k : ℕ) (more : List (Call E)) → numbers k ≡ true → NoneBears numbers more → Follows [] (made_by k more)
  others_follow numbers k [] held h = tt
  others_follow numbers k (c ∷ more) held h = other_follows numbers k [] c more held h.0 (others_follow numbers k more held h.1)

  -- the pauses of a call that waits are by its number, or others'
  module _ (numbers : ℕ → Bool) (reads : ℕ → Type 0) (time by : ℕ) (at : PartId) (ask : Ask E) (k : ℕ) (least : IsLeast numbers k) (is : by ≡ k) where
    pause_between : (c : Call E) → IsOwnTick numbers reads time by at ask c ⊎ IsPutOff numbers reads time by at ask c → (c.by ≡ k) × (is_between c.entry.event ≡ true)
    pause_between c =
        ⊎_elim
        (λ (t : IsOwnTick numbers reads time by at ask c). (one_least numbers numbers k c.by (λ n. refl) least t.least, tick_between c.entry.event _ t.ticks))
        (λ (w : IsPutOff numbers reads time by at ask c). (w.bears ∙ is, wait_between c.entry.event ask w.why w.refused w.waits))

    pub pauses_own : (more : List (Call E)) → ArePauses numbers reads time by at ask more → AreOwn numbers k more
    pauses_own [] p = tt
    pauses_own (c ∷ more) p = (⊎_elim (λ h. inr h) (λ h. inl (pause_between c h).0) p.0, pauses_own more p.1)

    pub pauses_follow : (more : List (Call E)) → ArePauses numbers reads time by at ask more → Follows [] (made_by k more)
    pauses_follow [] p = tt
    pauses_follow (c ∷ more) p =
        let below = pauses_follow more p.1 in
        ⊎_elim
        (λ (h : numbers c.by ≡ false). other_follows numbers k [] c more least.0 h below)
        (λ h. (let x = pause_between c h in subst (Follows []) (sym (made_own k c more x.0)) (x.1, below)))
        p.0

  module _ {S P : Type 0} (sees : S → P → List (Call E) → Type 0) (numbers : P → ℕ → Bool) (store : S) (pass : P) (new : SessionState E) (k : ℕ) (least : IsLeast (numbers pass) k) where
    -- pauses, and then this was asked by k and answered
    pub record Called (at : PartId) (ask : Ask E) (answer : Step) (run : List (Call E)) : Type 0 where
      pub more : List (Call E)
      pub apart : AreOwn (numbers pass) k more
      pub paused : Follows [] (made_by k more)
      pub by : ℕ
      pub is : by ≡ k
      pub event : Event E
      pub asked : asked_by (attempt event) ≡ ask
      pub before : List (Entry E)
      pub shows : answer ≡ step_shown before at event
      pub seen : sees store pass (called by at event ∷ (more ++ run))
      pub holds : Holds new (called by at event ∷ (more ++ run))

    pub makes_called : (s : SessionState E) (run : List (Call E)) (number : Option ℕ) (at : PartId) (ask : Ask E) (answer : Step) → ((n : ℕ) → number ≡ Some n → n ≡ k) → Makes sees numbers store pass run s new number at ask answer → Called at ask answer run
    makes_called s run number at ask answer given m = record {
      more = m.goes.more;
      apart = others_own (numbers pass) k m.goes.more m.goes.others;
      paused = others_follow (numbers pass) k m.goes.more least.0 m.goes.others;
      by = m.goes.by;
      is = bears_least (numbers pass) number m.goes.by k least given m.goes.bears;
      event = m.goes.event;
      asked = m.goes.asked;
      before = entries (m.goes.more ++ run);
      shows = m.goes.shows;
      seen = m.goes.seen;
      holds = m.holds;
    }

    pub later_called : (s : SessionState E) (run : List (Call E)) (reads : ℕ → Type 0) (time n : ℕ) (at : PartId) (ask : Ask E) (late : Bool) (answer : Step) → n ≡ k → Later (numbers pass) reads time n at ask late (λ whole. Makes sees numbers store pass whole s new (Some n) at ask answer) run → Called at ask answer run
    later_called s run reads time n at ask late answer is l =
        let g = l.goes.goes in
        let e : g.more ++ (l.more ++ run) ≡ (g.more ++ l.more) ++ run = sym (append_assoc g.more l.more run) in
        record {
          more = g.more ++ l.more;
          apart = own_append (numbers pass) k g.more l.more (others_own (numbers pass) k g.more g.others) (pauses_own (numbers pass) reads time n at ask k least is l.more l.pauses);
          paused = subst (Follows []) (sym (made_append k g.more l.more)) (follows_append [] [] (made_by k g.more) (made_by k l.more) (others_follow (numbers pass) k g.more least.0 g.others) (pauses_follow (numbers pass) reads time n at ask k least is l.more l.pauses));
          by = g.by;
          is = g.bears ∙ is;
          event = g.event;
          asked = g.asked;
          before = entries (g.more ++ (l.more ++ run));
          shows = g.shows;
          seen = subst (λ x. sees store pass (called g.by at g.event ∷ x)) e g.seen;
          holds = subst (λ x. Holds new (called g.by at g.event ∷ x)) e l.goes.holds;
        }

    module _ (at : PartId) (ask : Ask E) (answer : Step) (run : List (Call E)) (c : Called at ask answer run) where
      called_so : (deeds : List Deed) → Follows deeds (called c.by at c.event ∷ []) → IsOfLeast (numbers pass) new.doing → GoesSo sees numbers store pass new k deeds run
      called_so deeds f own =
          let first = called c.by at c.event in
          let e : made_by k (first ∷ c.more) ≡ (first ∷ []) ++ made_by k c.more = made_own k first c.more c.is in
          record {
            more = first ∷ c.more;
            apart = (inl c.is, c.apart);
            follows = subst (Follows deeds) (sym e) (subst (λ d. Follows d ((first ∷ []) ++ made_by k c.more)) (append-nil deeds) (follows_append deeds [] (first ∷ []) (made_by k c.more) f c.paused));
            seen = c.seen;
            holds = c.holds;
            own = own;
          }

      pub called_done : (d : Deed) → IsDone d at c.event → IsOfLeast (numbers pass) new.doing → GoesSo sees numbers store pass new k (d ∷ []) run
      called_done d h own = called_so (d ∷ []) (inl (h, tt)) own

      pub called_again : outcome_of answer ≡ Again → IsOfLeast (numbers pass) new.doing → GoesSo sees numbers store pass new k [] run
      called_again h own = called_so [] (again_between c.before at c.event (outcome_of answer) (ap outcome_of c.shows) h, tt) own

      pub called_stopped : outcome_of answer ≡ Stopped → HasDown sees numbers store pass at
      called_stopped h =
          let first = called c.by at c.event in
          record {
            run = first ∷ (c.more ++ run);
            seen = c.seen;
            number = k;
            held = least.0;
            call = subst (HasStopped at) (sym (made_own k first (c.more ++ run) c.is)) (inl (refl, stopped_stop c.before at c.event (outcome_of answer) (ap outcome_of c.shows) h));
          }
