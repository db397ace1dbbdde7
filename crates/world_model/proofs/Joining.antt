-- What two passes have seen; and what may be asked where more was seen.
use Rattle.std.proofs.Common.{◌≡◌, ⊎_elim, inl, inr, ℕ, ◌≤◌, ◌<◌, cond, Bool, true, false, ◌||◌, List, [], ◌∷◌, ◌++◌, length, refl, sym, ap, ◌∙◌, subst, arith, le_trans}
use Rattle.std.specs.Prelude.{ltb}
use Rattle.std.proofs.lemmas.Bool.{cond-true, cond-false, cases_lt, ltb-true, lt-ltb, false_from_ne_true}
use Rattle.std.proofs.lemmas.List.{length-append}
use Rattle.site_vector.specs.declared.ids.PartId.{PartId}
use Rattle.site_vector.specs.Ids.{same_part}
use Rattle.site_vector.specs.declared.ids.TxId.{TxId}
use Rattle.crdt_core.specs.KindsOf.{Kinds}
use Rattle.world_model.specs.rules.Event.{Ask, AskRead, AskUpdate, AskPrepare, AskDecide, AskAbort, Event, Aborted, attempt}
use Rattle.world_model.specs.rules.Partition.{PartState}
use Rattle.world_model.specs.rules.Plan.{IsNew}
use Rattle.world_model.specs.rules.Traces.{trace_of}
use Rattle.world_model.specs.rules.World.{IsWorldRun}
use Rattle.world_model.specs.rules.Asking.{asked_by, is_own_word}
use Rattle.world_model.proofs.Names.{off, part_same}
use Rattle.world_model.proofs.Whole.{shown_begun}
use Rattle.world_model.specs.threads.Marks.{Mark, Stands, entries_of, events, is_restarted, made_at}
use Rattle.world_model.specs.threads.Merging.{all_places, merged}
use Rattle.world_model.specs.threads.Callers.{IsCallers, IsCallersStep}
use Rattle.world_model.specs.threads.Allowed.{HasBegun, MayStand}
use Rattle.world_model.specs.threads.AreTraces.{AreTraces}
use Rattle.world_model.specs.threads.Orders.{IsOrderOf}
use Rattle.world_model.specs.threads.Views.{IsPart, NoneBears, both_seen}
use Rattle.world_model.proofs.Silent.{AreSilent, Grown, IsSilent, IsSilentFor}
use Rattle.world_model.proofs.Carrying.{any_in, shown_grown}
use Rattle.world_model.proofs.Larger.{may_call, cited_end, began_as}
use Rattle.world_model.proofs.Standing.{Is, stands_more}
use Rattle.world_model.proofs.Merging.{events_both, trace_made, silent_from, still_new}
use Rattle.world_model.proofs.Growing.{part_traces}
use Rattle.world_model.proofs.Going.{order_runs, rest_at, part_goes_on}

module _ {E : Type 0} where
  pub join_parts : (traces view other : PartId → List (Mark E)) → IsPart view traces → IsPart other traces → IsPart (both_seen view other) traces
  join_parts traces view other v o = record {
    rest = λ q. cond (ltb (length (view q)) (length (other q))) (o.rest q) (v.rest q);
    fronts = λ q. go (ltb (length (view q)) (length (other q))) q;
    closed = λ p n m s q. close (ltb (length (view p)) (length (other p))) p n m s q;
  }
    where
      go : (b : Bool) (q : PartId) → traces q ≡ cond b (o.rest q) (v.rest q) ++ cond b (other q) (view q)
      go true q = o.fronts q
      go false q = v.fronts q

      at_least : (q : PartId) → (length (view q) ≤ length (both_seen view other q)) × (length (other q) ≤ length (both_seen view other q))
      at_least q = ⊎_elim
          (λ (k : length (view q) < length (other q)). let e = ap length (cond-true (ltb (length (view q)) (length (other q))) (other q) (view q) (lt-ltb _ _ k)) in (omega arith, omega arith))
          (λ (k : length (other q) ≤ length (view q)). let e = ap length (cond-false (ltb (length (view q)) (length (other q))) (other q) (view q) (false_from_ne_true _ (λ h. let l = ltb-true (length (view q)) (length (other q)) h in absurd (omega arith)))) in (omega arith, omega arith))
          (cases_lt (length (view q)) (length (other q)))

      close : (b : Bool) (p : PartId) (n : ℕ) (m : Mark E) → Stands (cond b (other p) (view p)) n m → (q : PartId) → m.seen q ≤ length (both_seen view other q)
      close true p n m s q = le_trans (o.closed p n m s q) (at_least q).1
      close false p n m s q = le_trans (v.closed p n m s q) (at_least q).0

  is_made_at : (ms : List (Mark E)) (f : Mark E) → Is f ms → Is f (made_at f.at ms)
  is_made_at [] f h = absurd h
  is_made_at (x ∷ ms) f h = ⊎_elim
      (λ (k : x ≡ f). subst (λ l. Is f l) (sym (cond-true (same_part x.at f.at) (x ∷ made_at f.at ms) (made_at f.at ms) (part_same x.at f.at (ap (λ y. y.at) k)))) (inl k))
      (λ (k : Is f ms). more (same_part x.at f.at) (is_made_at ms f k))
      h
    where
      more : (b : Bool) → Is f (made_at f.at ms) → Is f (cond b (x ∷ made_at f.at ms) (made_at f.at ms))
      more true k = inr k
      more false k = k

  -- what stands on top has as many below it, at least
  on_top : (top low : List (Mark E)) (f : Mark E) → Is f top → (k : ℕ) × (Stands (top ++ low) k f × (length low ≤ k))
  on_top [] low f h = absurd h
  on_top (x ∷ top) low f h = ⊎_elim
      (λ (k : x ≡ f). (length (top ++ low), (inl (k, refl), (let e = length-append top low in omega arith))))
      (λ (k : Is f top). let i = on_top top low f k in (i.0, (inr i.1.0, i.1.1)))
      h

  none_from : (numbers : ℕ → Bool) (ms : List (Mark E)) → ((f : Mark E) → Is f ms → numbers f.by ≡ false) → NoneBears numbers ms
  none_from numbers [] h = tt
  none_from numbers (x ∷ ms) h = (h x (inl refl), none_from numbers ms (λ f k. h f (inr k)))

  pub none_bears : {S : Type 0} (kinds : Kinds S E) (sites parts : ℕ) (traces view : PartId → List (Mark E)) (state : PartId → PartState E) (a : AreTraces kinds sites parts traces state) (v : IsPart view traces) (numbers : ℕ → Bool) → ((q : PartId) (k : ℕ) (f : Mark E) → Stands (traces q) k f → numbers f.by ≡ true → k < length (view q)) → NoneBears numbers (merged (all_places sites parts) v.rest)
  none_bears kinds sites parts traces view state a v numbers held = none_from numbers (merged (all_places sites parts) v.rest) (λ f h. false_from_ne_true _ (λ bears.
      let here : Is f (v.rest f.at) = subst (λ l. Is f l) (rest_at kinds sites parts traces view state a v f.at) (is_made_at (merged (all_places sites parts) v.rest) f h) in
      let i = on_top (v.rest f.at) (view f.at) f here in
      let l = held f.at i.0 f (subst (λ x. Stands x i.0 f) (sym (v.fronts f.at)) i.1.0) bears in
      let b = i.1.1 in absurd (omega arith)))

  none_in : (xs : List (Mark E)) → ((k : ℕ) (f : Mark E) → Stands xs k f → is_restarted f.event ≡ false) → any_in is_restarted (events xs) ≡ false
  none_in [] h = refl
  none_in (x ∷ xs) h = ap (λ b. b || any_in is_restarted (events xs)) (h (length xs) x (inl (refl, refl))) ∙ none_in xs (λ k f s. h k f (inr s))

  module _ {S : Type 0} (kinds : Kinds S E) (sites parts : ℕ) (traces view : PartId → List (Mark E)) (state : PartId → PartState E) (a : AreTraces kinds sites parts traces state) (v : IsPart view traces) (base : List (Mark E)) (o : IsOrderOf view base) (by : ℕ) (number : (q : PartId) (k : ℕ) (f : Mark E) → Stands (traces q) k f → f.by ≡ by → k < length (view q)) where
    abbrev next : List (Mark E)
    next = merged (all_places sites parts) v.rest ++ base

    abbrev grown : Grown (entries_of next) (entries_of base)
    grown = record {
      more = λ q. events (v.rest q);
      is = λ q. trace_made q next ∙ ap events ((part_goes_on kinds sites parts traces view state a v base o).all q ∙ v.fronts q) ∙ events_both (v.rest q) (view q) ∙ ap (λ l. events (v.rest q) ++ l) (ap events (sym (o.all q)) ∙ sym (trace_made q base));
    }

    silent : (t : TxId) → by ≡ a.caller t → (q : PartId) → AreSilent (events (v.rest q)) t
    silent t mine q = silent_from t (v.rest q) (view q) (λ k f s l. false_from_ne_true _ (λ touch.
        let there : Stands (traces q) k f = subst (λ x. Stands x k f) (sym (v.fronts q)) s in
        let b = number q k f there (a.owned q k f there t touch ∙ sym mine) in absurd (omega arith)))

    silent_ask : (ask : Ask E) → IsCallers a.caller by ask → IsSilent (λ q. events (v.rest q)) ask
    silent_ask (AskRead t s u own) mine = silent t mine
    silent_ask (AskUpdate t s u own op) mine = silent t mine
    silent_ask (AskPrepare t s l us) mine = silent t mine
    silent_ask (AskDecide t c) mine = silent t mine
    silent_ask (AskAbort t) mine = silent t mine
    silent_ask ask mine = tt

    silent_step : (event : Event E) → IsCallersStep a.caller by event → IsSilentFor (λ q. events (v.rest q)) event
    silent_step (Aborted t false) mine = tt
    silent_step event mine = silent_ask (asked_by event) mine

    large_run : IsWorldRun kinds sites parts (entries_of next) state
    large_run = order_runs kinds sites parts traces view state a next (part_goes_on kinds sites parts traces view state a v base o)

    small_run : IsWorldRun kinds sites parts (entries_of base) (part_traces kinds sites parts traces view state a v).0
    small_run = order_runs kinds sites parts view view (part_traces kinds sites parts traces view state a v).0 (part_traces kinds sites parts traces view state a v).1 base o

    still_begun : (ask : Ask E) → HasBegun (entries_of base) ask → HasBegun (entries_of next) ask
    still_begun (AskAbort t) h = let b = began_as (entries_of base) t h in shown_begun (entries_of next) b.at b.who b.dependency t _ (shown_grown (entries_of next) (entries_of base) grown b.at _ b.shown)
    still_begun ask h = tt

    unbroken : (q : PartId) → any_in is_restarted (trace_of q (entries_of base)) ≡ false
    unbroken q = ap (any_in is_restarted) (trace_made q base ∙ ap events (o.all q)) ∙ none_in (view q) (λ k f s. a.unbroken q k f (subst (λ x. Stands x k f) (sym (v.fronts q)) (stands_more (v.rest q) (view q) k f s)))

    still_may : (at : PartId) (event : Event E) → is_own_word event ≡ true → IsSilentFor (λ q. events (v.rest q)) event → MayStand sites parts (entries_of base) at event → MayStand sites parts (entries_of next) at event
    still_may at (Aborted t false) w s h = off w
    still_may at event w s h =
        (may_call kinds sites parts (entries_of next) (entries_of base) state (part_traces kinds sites parts traces view state a v).0 large_run small_run grown at (asked_by event) s (cited_end kinds sites parts (entries_of base) (part_traces kinds sites parts traces view state a v).0 small_run unbroken at (asked_by event) h.0) h.0, still_begun (asked_by event) h.1)

    pub may_goes_on : (at : PartId) (event : Event E) → is_own_word (attempt event) ≡ true → IsCallersStep a.caller by (attempt event) → MayStand sites parts (entries_of base) at (attempt event) → IsNew (entries_of base) event → MayStand sites parts (entries_of next) at (attempt event) × IsNew (entries_of next) event
    may_goes_on at event w mine h n =
        let s = silent_step (attempt event) mine in
        (still_may at (attempt event) w s h, still_new kinds sites parts traces state a (entries_of next) (entries_of base) state (part_traces kinds sites parts traces view state a v).0 large_run small_run grown event s n)
