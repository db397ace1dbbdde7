-- Traces merge into a run of the world.
use Rattle.std.proofs.Common.{◌≡◌, ◌⊎◌, ⊎_elim, inl, inr, ℕ, ◌+◌, ◌≤◌, ◌<◌, cond, Bool, true, false, ◌||◌, List, [], ◌∷◌, ◌++◌, length, refl, sym, ap, ◌∙◌, subst, arith, le_refl}
use Rattle.std.proofs.lemmas.Bool.{cases_Bool, cond-true, cond-false, false_from_ne_true}
use Rattle.std.proofs.lemmas.List.{length-append}
use Rattle.site_vector.specs.declared.ids.PartId.{PartId}
use Rattle.site_vector.specs.declared.ids.TxId.{TxId}
use Rattle.site_vector.specs.Ids.{same_part}
use Rattle.site_vector.specs.Order.{same_part_is, same_part_refl}
use Rattle.crdt_core.specs.KindsOf.{Kinds}
use Rattle.world_model.specs.rules.Event.{Ask, AskRead, AskUpdate, AskPrepare, AskDecide, AskAbort, Event, Updated, Aborted, Entry, attempt}
use Rattle.world_model.specs.rules.Partition.{PartState, PartStep}
use Rattle.world_model.specs.rules.Plan.{IsNew}
use Rattle.world_model.specs.rules.Traces.{trace_of, IsTrace}
use Rattle.world_model.specs.rules.World.{IsWorldRun}
use Rattle.world_model.specs.rules.Asking.{asked_by}
use Rattle.world_model.specs.threads.Calls.{touches}
use Rattle.world_model.specs.threads.Marks.{Mark, Stands, entries_of, events, first_of_trace, is_restarted, made_at}
use Rattle.world_model.specs.threads.Merging.{all_places, merged}
use Rattle.world_model.specs.threads.Callers.{IsCallers, IsCallersStep}
use Rattle.world_model.specs.threads.Allowed.{WasAllowed}
use Rattle.world_model.specs.threads.AreTraces.{AreTraces}
use Rattle.world_model.specs.threads.Orders.{IsNextStep, IsOrder, IsOrderOf, IsSorted}
use Rattle.world_model.proofs.Silent.{AreSilent, Grown, IsSilent, IsSilentFor}
use Rattle.world_model.proofs.Carrying.{any_in, tried_same}
use Rattle.world_model.proofs.Leading.{allowed_grown}
use Rattle.world_model.proofs.Counting.{count_same}
use Rattle.world_model.proofs.Sorting.{AreBelow, IsRising, IsIn, in_cases, merged_out, merged_at, sorted_all}
use Rattle.world_model.proofs.Standing.{AreStamped, stands_more, stands_below, stands_is, is_made, places_once, places_have, merged_order, seen_here, first_parts, first_skips}

module _ {E : Type 0} where
  pub events_both : (xs ys : List (Mark E)) → events (xs ++ ys) ≡ events xs ++ events ys
  events_both [] ys = refl
  events_both (x ∷ xs) ys = ap (λ l. x.event ∷ l) (events_both xs ys)

  pub trace_made : (p : PartId) (ms : List (Mark E)) → trace_of p (entries_of ms) ≡ events (made_at p ms)
  trace_made p [] = refl
  trace_made p (m ∷ ms) = go (same_part m.at p) (trace_made p ms)
    where
      go : (b : Bool) → trace_of p (entries_of ms) ≡ events (made_at p ms) → cond b (m.event ∷ trace_of p (entries_of ms)) (trace_of p (entries_of ms)) ≡ events (cond b (m ∷ made_at p ms) (made_at p ms))
      go true k = ap (λ l. m.event ∷ l) k
      go false k = k

  pub silent_from : (t : TxId) (rest old : List (Mark E)) → ((k : ℕ) (f : Mark E) → Stands (rest ++ old) k f → length old ≤ k → touches f.event t ≡ false) → AreSilent (events rest) t
  silent_from t [] old h = tt
  silent_from t (x ∷ rest) old h = (h (length (rest ++ old)) x (inl (refl, refl)) (longer rest old), silent_from t rest old (λ k f s l. h k f (inr s) l))
    where
      longer : (xs ys : List (Mark E)) → length ys ≤ length (xs ++ ys)
      longer [] ys = le_refl _
      longer (y ∷ xs) ys = let i = longer xs ys in omega arith

  -- the part of the merged run that stands below m is the run that m's caller had seen, and others' steps
  module _ {S : Type 0} (kinds : Kinds S E) (sites parts : ℕ) (traces : PartId → List (Mark E)) (whole : PartId → PartState E) (a : AreTraces kinds sites parts traces whole) where
    record Around (m : Mark E) (ms : List (Mark E)) (w : WasAllowed kinds sites parts traces a.caller m) : Type 0 where
      pub rest : PartId → List (Mark E)
      pub is : (q : PartId) → made_at q ms ≡ rest q ++ made_at q w.run
      pub size : (q : PartId) → length (made_at q w.run) ≡ m.seen q

    around : (m : Mark E) (ms : List (Mark E)) (w : WasAllowed kinds sites parts traces a.caller m) → IsNextStep traces m ms → Around m ms w
    around m ms w n =
        let cut : (q : PartId) → made_at q w.run ≡ first_of_trace (m.seen q) (made_at q ms) = λ q. w.seen q ∙ ap (first_of_trace (m.seen q)) (n.fronts q) ∙ first_skips (m.seen q) (n.top q) (made_at q ms) (n.seen q) in record {
          rest = λ q. (first_parts (m.seen q) (made_at q ms) (n.seen q)).0;
          is = λ q. (first_parts (m.seen q) (made_at q ms) (n.seen q)).1.0 ∙ ap (λ l. (first_parts (m.seen q) (made_at q ms) (n.seen q)).0 ++ l) (sym (cut q));
          size = λ q. ap length (cut q) ∙ (first_parts (m.seen q) (made_at q ms) (n.seen q)).1.1;
        }

    grown : (m : Mark E) (ms : List (Mark E)) (w : WasAllowed kinds sites parts traces a.caller m) → Around m ms w → Grown (entries_of ms) (entries_of w.run)
    grown m ms w r = record {
      more = λ q. events (r.rest q);
      is = λ q. trace_made q ms ∙ ap events (r.is q) ∙ events_both (r.rest q) (made_at q w.run) ∙ ap (λ l. events (r.rest q) ++ l) (sym (trace_made q w.run));
    }

    -- others' steps tell nothing of a transaction of m's caller
    silent : (m : Mark E) (ms : List (Mark E)) (w : WasAllowed kinds sites parts traces a.caller m) (n : IsNextStep traces m ms) → IsOrder traces ms → (r : Around m ms w) → (t : TxId) → m.by ≡ a.caller t → (q : PartId) → AreSilent (events (r.rest q)) t
    silent m ms w n o r t mine q = silent_from t (r.rest q) (made_at q w.run) (λ k f s l. false_from_ne_true _ (λ touch.
        let here : Stands (made_at q ms) k f = subst (λ x. Stands x k f) (sym (r.is q)) s in
        let there : Stands (traces q) k f = subst (λ x. Stands x k f) (sym (n.fronts q)) (stands_more (n.top q) (made_at q ms) k f here) in
        let same : f.by ≡ m.by = a.owned q k f there t touch ∙ sym mine in
        let size = r.size q in
        let below = stands_below (made_at q ms) k f here in
        ⊎_elim
        (λ (x : k < m.seen q). absurd (omega arith))
        (λ (x : (length (made_at m.at ms) < f.seen m.at) ⊎ ((m.at ≡ q) × (length (made_at m.at ms) ≡ k))). ⊎_elim
        (λ (y : length (made_at m.at ms) < f.seen m.at). let z = seen_here traces ms o f (is_made q ms f (stands_is (made_at q ms) k f here)) m.at in absurd (omega arith))
        (λ (y : (m.at ≡ q) × (length (made_at m.at ms) ≡ k)). let z : length (made_at q ms) ≡ k = ap (λ p. length (made_at p ms)) (sym y.0) ∙ y.1 in absurd (omega arith))
        x)
        (a.chain m.at (length (made_at m.at ms)) m n.stands q k f there same)))

    silent_ask : (m : Mark E) (ms : List (Mark E)) (w : WasAllowed kinds sites parts traces a.caller m) (n : IsNextStep traces m ms) → IsOrder traces ms → (r : Around m ms w) → (ask : Ask E) → IsCallers a.caller m.by ask → IsSilent (λ q. events (r.rest q)) ask
    silent_ask m ms w n o r (AskRead t s v own) mine = silent m ms w n o r t mine
    silent_ask m ms w n o r (AskUpdate t s v own op) mine = silent m ms w n o r t mine
    silent_ask m ms w n o r (AskPrepare t s l us) mine = silent m ms w n o r t mine
    silent_ask m ms w n o r (AskDecide t c) mine = silent m ms w n o r t mine
    silent_ask m ms w n o r (AskAbort t) mine = silent m ms w n o r t mine
    silent_ask m ms w n o r ask mine = tt

    silent_step : (m : Mark E) (ms : List (Mark E)) (w : WasAllowed kinds sites parts traces a.caller m) (n : IsNextStep traces m ms) → IsOrder traces ms → (r : Around m ms w) → (event : Event E) → IsCallersStep a.caller m.by event → IsSilentFor (λ q. events (r.rest q)) event
    silent_step m ms w n o r (Aborted t false) mine = tt
    silent_step m ms w n o r event mine = silent_ask m ms w n o r (asked_by event) mine

    -- of its own partition m's caller had seen all
    same_here : (m : Mark E) (ms : List (Mark E)) (w : WasAllowed kinds sites parts traces a.caller m) (n : IsNextStep traces m ms) → Around m ms w → trace_of m.at (entries_of ms) ≡ trace_of m.at (entries_of w.run)
    same_here m ms w n r =
        let own = a.own m.at (length (made_at m.at ms)) m n.stands in
        let size = r.size m.at in
        trace_made m.at ms ∙ ap events (r.is m.at ∙ none_on_top (r.rest m.at) (made_at m.at w.run) (ap length (sym (r.is m.at)) ∙ sym own ∙ sym size)) ∙ sym (trace_made m.at w.run)
      where
        none_on_top : (xs ys : List (Mark E)) → length (xs ++ ys) ≡ length ys → xs ++ ys ≡ ys
        none_on_top [] ys h = refl
        none_on_top (x ∷ xs) ys h = let l = length-append xs ys in absurd (omega arith)

    unbroken : (m : Mark E) (ms : List (Mark E)) (w : WasAllowed kinds sites parts traces a.caller m) (n : IsNextStep traces m ms) (r : Around m ms w) → (q : PartId) → any_in is_restarted (trace_of q (entries_of w.run)) ≡ false
    unbroken m ms w n r q = ap (any_in is_restarted) (trace_made q w.run) ∙ none_in (made_at q w.run) (λ k f s.
        a.unbroken q k f (subst (λ x. Stands x k f) (sym (n.fronts q)) (stands_more (n.top q) (made_at q ms) k f (subst (λ x. Stands x k f) (sym (r.is q)) (stands_more (r.rest q) (made_at q w.run) k f s)))))
      where
        none_in : (xs : List (Mark E)) → ((k : ℕ) (f : Mark E) → Stands xs k f → is_restarted f.event ≡ false) → any_in is_restarted (events xs) ≡ false
        none_in [] h = refl
        none_in (x ∷ xs) h = ap (λ b. b || any_in is_restarted (events xs)) (h (length xs) x (inl (refl, refl))) ∙ none_in xs (λ k f s. h k f (inr s))

    -- a new update stays one
    pub still_new : (large small : List (Entry E)) (after before : PartId → PartState E) → IsWorldRun kinds sites parts large after → IsWorldRun kinds sites parts small before → (g : Grown large small) (event : Event E) → IsSilentFor g.more (attempt event) → IsNew small event → IsNew large event
    still_new large small after before r q g (Updated t s o own op read u stamp) silence h = record {
      early = λ p. tried_same t large small g silence p ∙ h.early p;
      number = h.number ∙ ap (λ n. n + 1) (sym (count_same kinds sites parts t large small after before r q g silence));
    }
    still_new large small after before r q g event silence h = tt

    pub runs : (ms : List (Mark E)) (state : PartId → PartState E) → IsOrder traces ms → ((p : PartId) → IsTrace kinds sites parts p (events (made_at p ms)) (state p)) → IsWorldRun kinds sites parts (entries_of ms) state
    unfolding grown around
    runs [] state o h = h
    runs (m ∷ ms) state o h =
        let n = o.0 in
        let w = a.allowed m.at (length (made_at m.at ms)) m n.stands in
        let r = around m ms w n in
        let g = grown m ms w r in
        let last : IsTrace kinds sites parts m.at (m.event ∷ events (made_at m.at ms)) (state m.at) = subst (λ l. IsTrace kinds sites parts m.at (events l) (state m.at)) (cond-true (same_part m.at m.at) (m ∷ made_at m.at ms) (made_at m.at ms) (same_part_refl m.at)) (h m.at) in
        let before : PartId → PartState E = λ q. cond (same_part m.at q) last.0 (state q) in
        let here : before m.at ≡ last.0 = cond-true (same_part m.at m.at) last.0 (state m.at) (same_part_refl m.at) in
        let old : (q : PartId) → IsTrace kinds sites parts q (events (made_at q ms)) (before q) = λ q. ⊎_elim
        (λ (k : same_part m.at q ≡ true). subst (λ s. IsTrace kinds sites parts q (events (made_at q ms)) s) (sym (cond-true (same_part m.at q) last.0 (state q) k)) (subst (λ p. IsTrace kinds sites parts p (events (made_at p ms)) last.0) (same_part_is m.at q k) last.1))
        (λ (k : same_part m.at q ≡ false). subst (λ s. IsTrace kinds sites parts q (events (made_at q ms)) s) (sym (cond-false (same_part m.at q) last.0 (state q) k)) (subst (λ l. IsTrace kinds sites parts q (events l) (state q)) (cond-false (same_part m.at q) (m ∷ made_at q ms) (made_at q ms) k) (h q)))
        (cases_Bool (same_part m.at q)) in
        let run = runs ms before o.1 old in
        let silence = silent_step m ms w n o.1 r (attempt m.event) w.mine in
        let step = subst (λ s. PartStep kinds sites parts m.at s m.event (state m.at)) (sym here) last.2 in
        let place = (a.place m.at (length (made_at m.at ms)) m n.stands).0 in (
          before,
          run,
          record {
            place = record { least_site = place.least_site; most_site = place.most_site; least_part = place.least_part; most_part = place.most_part };
            allowed = allowed_grown kinds sites parts (entries_of ms) (entries_of w.run) before w.state run w.is_run g (unbroken m ms w n r) m.at (same_here m ms w n r) m.event (state m.at) step silence w.may;
            fit = w.fit;
            step = step;
            others = λ q ne. sym (cond-false (same_part m.at q) last.0 (state q) (false_from_ne_true _ (λ k. ne (sym (same_part_is m.at q k)))));
          },
          still_new (entries_of ms) (entries_of w.run) before w.state run w.is_run g m.event silence w.new,
        )

    pub stamped : AreStamped traces
    stamped = record { within = a.within; rises = a.rises }

    -- a trace rises
    pub rising : (p : PartId) (top low : List (Mark E)) → traces p ≡ top ++ low → IsRising p low
    rising p top [] e = tt
    rising p top (m ∷ low) e =
        let here : Stands (traces p) (length low) m = subst (λ l. Stands l (length low) m) (sym e) (stands_more top (m ∷ low) (length low) m (inl (refl, refl))) in
        let own = a.own p (length low) m here in (
          (a.place p (length low) m here).1,
          below m.stamp low (λ k f s. a.rises p (length low) m here p k f (subst (λ l. Stands l k f) (sym e) (stands_more top (m ∷ low) k f (inr s))) (let b = stands_below low k f s in omega arith)),
          rising p (top ++ m ∷ []) low (e ∙ regroup top low m),
        )
      where
        below : (n : ℕ) (xs : List (Mark E)) → ((k : ℕ) (f : Mark E) → Stands xs k f → f.stamp < n) → AreBelow n xs
        below n [] h = tt
        below n (x ∷ xs) h = (h (length xs) x (inl (refl, refl)), below n xs (λ k f s. h k f (inr s)))

        regroup : (xs ys : List (Mark E)) (x : Mark E) → xs ++ x ∷ ys ≡ (xs ++ x ∷ []) ++ ys
        regroup [] ys x = refl
        regroup (y ∷ xs) ys x = ap (λ l. y ∷ l) (regroup xs ys x)

    at_all : (p : PartId) → made_at p (merged (all_places sites parts) traces) ≡ traces p
    at_all p = ⊎_elim
        (λ (k : IsIn p (all_places sites parts)). merged_at (all_places sites parts) traces (λ q. rising q [] (traces q) refl) (places_once sites parts) p k)
        (λ (k : IsIn p (all_places sites parts) → ⊥). merged_out (all_places sites parts) traces (λ q. rising q [] (traces q) refl) p k ∙ sym (outside (traces p) refl k))
        (in_cases p (all_places sites parts))
      where
        outside : (ms : List (Mark E)) → traces p ≡ ms → (IsIn p (all_places sites parts) → ⊥) → traces p ≡ []
        outside [] e k = e
        outside (x ∷ ms) e k = absurd (k (places_have sites parts p (a.place p (length ms) x (subst (λ l. Stands l (length ms) x) (sym e) (inl (refl, refl)))).0))

    pub merge : IsWorldRun kinds sites parts (entries_of (merged (all_places sites parts) traces)) whole
    merge = runs (merged (all_places sites parts) traces) whole (merged_order (all_places sites parts) traces stamped at_all) (λ p. subst (λ l. IsTrace kinds sites parts p (events l) (whole p)) (sym (at_all p)) (a.steps p))

  pub law_merged : {S : Type 0} (kinds : Kinds S E) (sites parts : ℕ) (traces : PartId → List (Mark E)) (state : PartId → PartState E) → AreTraces kinds sites parts traces state → IsWorldRun kinds sites parts (entries_of (merged (all_places sites parts) traces)) state × IsOrderOf traces (merged (all_places sites parts) traces) × IsSorted (merged (all_places sites parts) traces)
  law_merged kinds sites parts traces state a = (
    merge kinds sites parts traces state a,
    record {
      order = merged_order (all_places sites parts) traces (stamped kinds sites parts traces state a) (at_all kinds sites parts traces state a);
      all = at_all kinds sites parts traces state a;
    },
    sorted_all (all_places sites parts) traces,
  )
