-- What a pass has seen of traces are traces, and traces with one more step are.
use Rattle.std.proofs.Common.{◌≡◌, ◌⊎◌, ⊎_elim, inl, inr, ℕ, ◌≤◌, ◌<◌, cond, Bool, true, false, List, [], ◌∷◌, ◌++◌, length, refl, sym, ap, ◌∙◌, subst, arith, le_trans, le_refl}
use Rattle.std.proofs.lemmas.Bool.{cases_Bool, cond-true, cond-false}
use Rattle.std.proofs.lemmas.List.{length-append}
use Rattle.site_vector.specs.declared.ids.PartId.{PartId}
use Rattle.site_vector.specs.declared.ids.TxId.{TxId}
use Rattle.site_vector.specs.Ids.{same_part}
use Rattle.site_vector.specs.Order.{same_part_is}
use Rattle.crdt_core.specs.KindsOf.{Kinds}
use Rattle.world_model.specs.lines.Places.{IsPlace}
use Rattle.world_model.specs.rules.Partition.{PartState, PartStep}
use Rattle.world_model.specs.rules.Traces.{IsTrace}
use Rattle.world_model.specs.threads.Calls.{touches}
use Rattle.world_model.specs.threads.Marks.{Mark, Stands, events, first_of_trace, is_restarted}
use Rattle.world_model.specs.threads.Allowed.{WasAllowed}
use Rattle.world_model.specs.threads.AreTraces.{AreTraces}
use Rattle.world_model.specs.threads.Views.{IsPart}
use Rattle.world_model.specs.threads.Steps.{IsStep, with_step}
use Rattle.world_model.proofs.Standing.{stands_more, first_skips, first_parts}

module _ {E : Type 0} where
  trace_cut : {S : Type 0} (kinds : Kinds S E) (sites parts : ℕ) (p : PartId) (top low : List (Mark E)) (state : PartState E) → IsTrace kinds sites parts p (events (top ++ low)) state → (old : PartState E) × IsTrace kinds sites parts p (events low) old
  trace_cut kinds sites parts p [] low state t = (state, t)
  trace_cut kinds sites parts p (m ∷ top) low state t = trace_cut kinds sites parts p top low t.0 t.1

  -- traces of which a pass has seen some
  pub part_traces : {S : Type 0} (kinds : Kinds S E) (sites parts : ℕ) (traces view : PartId → List (Mark E)) (state : PartId → PartState E) → AreTraces kinds sites parts traces state → IsPart view traces → (old : PartId → PartState E) × AreTraces kinds sites parts view old
  part_traces kinds sites parts traces view state a v =
      let up : (p : PartId) (n : ℕ) (m : Mark E) → Stands (view p) n m → Stands (traces p) n m = λ p n m s. subst (λ l. Stands l n m) (sym (v.fronts p)) (stands_more (v.rest p) (view p) n m s) in
      let cut : (p : PartId) → (old : PartState E) × IsTrace kinds sites parts p (events (view p)) old = λ p. trace_cut kinds sites parts p (v.rest p) (view p) (state p) (subst (λ l. IsTrace kinds sites parts p (events l) (state p)) (v.fronts p) (a.steps p)) in (
        (λ p. (cut p).0),
        record {
          steps = λ p. (cut p).1;
          place = λ p n m s. a.place p n m (up p n m s);
          unbroken = λ p n m s. a.unbroken p n m (up p n m s);
          own = λ p n m s. a.own p n m (up p n m s);
          within = v.closed;
          rises = λ p n m s q k f x l. a.rises p n m (up p n m s) q k f (up q k f x) l;
          chain = λ p n m s q k f x e. a.chain p n m (up p n m s) q k f (up q k f x) e;
          caller = a.caller;
          owned = λ p n m s. a.owned p n m (up p n m s);
          allowed = λ p n m s. let w = a.allowed p n m (up p n m s) in record {
            run = w.run;
            seen = λ q. w.seen q ∙ ap (first_of_trace (m.seen q)) (v.fronts q) ∙ first_skips (m.seen q) (v.rest q) (view q) (v.closed p n m s q);
            state = w.state;
            is_run = w.is_run;
            may = w.may;
            mine = w.mine;
            new = w.new;
            fit = w.fit;
          };
        },
      )

  pub part_caller : {S : Type 0} (kinds : Kinds S E) (sites parts : ℕ) (traces view : PartId → List (Mark E)) (state : PartId → PartState E) (a : AreTraces kinds sites parts traces state) (v : IsPart view traces) → (part_traces kinds sites parts traces view state a v).1.caller ≡ a.caller
  unfolding part_traces
  part_caller kinds sites parts traces view state a v = refl

  pub first_all : (ms : List (Mark E)) → first_of_trace (length ms) ms ≡ ms
  first_all ms = let i = first_parts (length ms) ms (le_refl _) in sym (i.1.0 ∙ none i.0 (first_of_trace (length ms) ms) (ap length (sym i.1.0) ∙ sym i.1.1))
    where
      none : (xs ys : List (Mark E)) → length (xs ++ ys) ≡ length ys → xs ++ ys ≡ ys
      none [] ys h = refl
      none (x ∷ xs) ys h = let l = length-append xs ys in absurd (omega arith)

  -- a step of the larger traces is old, or the new one
  new_or_old : (m : Mark E) (traces : PartId → List (Mark E)) (q : PartId) (k : ℕ) (f : Mark E) → Stands (with_step m traces q) k f → Stands (traces q) k f ⊎ ((m.at ≡ q) × ((m ≡ f) × (k ≡ length (traces q))))
  new_or_old m traces q k f s = ⊎_elim
      (λ (x : same_part m.at q ≡ true). ⊎_elim (λ (y : (m ≡ f) × (k ≡ length (traces q))). inr (same_part_is m.at q x, y)) (λ (y : Stands (traces q) k f). inl y) (subst (λ l. Stands l k f) (cond-true (same_part m.at q) (m ∷ traces q) (traces q) x) s))
      (λ (x : same_part m.at q ≡ false). inl (subst (λ l. Stands l k f) (cond-false (same_part m.at q) (m ∷ traces q) (traces q) x) s))
      (cases_Bool (same_part m.at q))

  pub longer_by : (m : Mark E) (traces : PartId → List (Mark E)) (q : PartId) → (top : List (Mark E)) × (with_step m traces q ≡ top ++ traces q)
  longer_by m traces q = go (same_part m.at q)
    where
      go : (b : Bool) → (top : List (Mark E)) × (cond b (m ∷ traces q) (traces q) ≡ top ++ traces q)
      go true = (m ∷ [], refl)
      go false = ([], refl)

  pub more_traces : {S : Type 0} (kinds : Kinds S E) (sites parts : ℕ) (traces view : PartId → List (Mark E)) (state : PartId → PartState E) (a : AreTraces kinds sites parts traces state) (caller : TxId → ℕ) (m : Mark E) (later : PartState E) → IsStep kinds sites parts traces view state caller m later
      → ((p : PartId) (n : ℕ) (f : Mark E) → Stands (traces p) n f → (t : TxId) → touches f.event t ≡ true → caller t ≡ a.caller t)
      → ((p : PartId) (n : ℕ) (f : Mark E) → Stands (traces p) n f → WasAllowed kinds sites parts traces caller f)
      → AreTraces kinds sites parts (with_step m traces) (λ q. cond (same_part m.at q) later (state q))
  more_traces kinds sites parts traces view state a caller m later s kept still =
      let next = with_step m traces in
      let size : (q : PartId) → length (traces q) ≤ length (next q) = λ q. let l = longer_by m traces q in let e = length-append l.0 (traces q) in subst (λ x. length (traces q) ≤ length x) (sym l.1) (omega arith) in
      let down : (q : PartId) → length (view q) ≤ length (traces q) = λ q. let e = length-append (s.part.rest q) (view q) in subst (λ x. length (view q) ≤ length x) (sym (s.part.fronts q)) (omega arith) in
      let up : (q : PartId) (k : ℕ) (f : Mark E) → Stands (view q) k f → Stands (traces q) k f = λ q k f x. subst (λ l. Stands l k f) (sym (s.part.fronts q)) (stands_more (s.part.rest q) (view q) k f x) in
      record {
        steps = λ q. ⊎_elim
            (λ (x : same_part m.at q ≡ true).
            let e = same_part_is m.at q x in
            subst (λ l. IsTrace kinds sites parts q (events l) (cond (same_part m.at q) later (state q))) (sym (cond-true (same_part m.at q) (m ∷ traces q) (traces q) x))
            (subst (λ y. IsTrace kinds sites parts q (events (m ∷ traces q)) y) (sym (cond-true (same_part m.at q) later (state q) x))
            (state q, a.steps q, subst (λ y. PartStep kinds sites parts y (state y) m.event later) e s.step)))
            (λ (x : same_part m.at q ≡ false).
            subst (λ l. IsTrace kinds sites parts q (events l) (cond (same_part m.at q) later (state q))) (sym (cond-false (same_part m.at q) (m ∷ traces q) (traces q) x))
            (subst (λ y. IsTrace kinds sites parts q (events (traces q)) y) (sym (cond-false (same_part m.at q) later (state q) x)) (a.steps q)))
            (cases_Bool (same_part m.at q));
        place = λ p n f x. ⊎_elim (λ y. a.place p n f y) (λ y. subst (λ z. place_at z f) y.0 (subst (λ g. place_at m.at g) y.1.0 (s.place, refl))) (new_or_old m traces p n f x);
        unbroken = λ p n f x. ⊎_elim (λ y. a.unbroken p n f y) (λ y. subst (λ g. is_restarted g.event ≡ false) y.1.0 s.unbroken) (new_or_old m traces p n f x);
        own = λ p n f x. ⊎_elim (λ y. a.own p n f y) (λ y. subst (λ g. g.seen p ≡ n) y.1.0 (s.seen p ∙ ap length (subst (λ z. view z ≡ traces z) y.0 s.whole) ∙ sym y.1.1)) (new_or_old m traces p n f x);
        within = λ p n f x q. ⊎_elim (λ y. le_trans (a.within p n f y q) (size q)) (λ y. subst (λ g. g.seen q ≤ length (next q)) y.1.0 (subst (λ i. i ≤ length (next q)) (sym (s.seen q)) (le_trans (down q) (size q)))) (new_or_old m traces p n f x);
        rises = λ p n f x q k g y l. ⊎_elim
            (λ (x' : Stands (traces p) n f). ⊎_elim
            (λ (y' : Stands (traces q) k g). a.rises p n f x' q k g y' l)
            (λ (y' : (m.at ≡ q) × ((m ≡ g) × (k ≡ length (traces q)))). let w = a.within p n f x' q in let e = y'.1.1 in absurd (omega arith))
            (new_or_old m traces q k g y))
            (λ (x' : (m.at ≡ p) × ((m ≡ f) × (n ≡ length (traces p)))).
            let below : k < length (view q) = subst (λ i. k < i) (s.seen q) (subst (λ h. k < h.seen q) (sym x'.1.0) l) in
            ⊎_elim
            (λ (y' : Stands (traces q) k g). subst (λ h. g.stamp < h.stamp) x'.1.0 (s.stamp q k g (seen_stands (s.part.rest q) (view q) k g (subst (λ z. Stands z k g) (s.part.fronts q) y') below)))
            (λ (y' : (m.at ≡ q) × ((m ≡ g) × (k ≡ length (traces q)))). let e = y'.1.1 in let d = down q in absurd (omega arith))
            (new_or_old m traces q k g y))
            (new_or_old m traces p n f x);
        chain = λ p n f x q k g y e. ⊎_elim
            (λ (x' : Stands (traces p) n f). ⊎_elim
            (λ (y' : Stands (traces q) k g). a.chain p n f x' q k g y' e)
            (λ (y' : (m.at ≡ q) × ((m ≡ g) × (k ≡ length (traces q)))). inr (inl (subst (λ h. n < h.seen p) y'.1.0 (subst (λ i. n < i) (sym (s.seen p)) (s.number p n f x' (sym e ∙ ap (λ h. h.by) (sym y'.1.0)))))))
            (new_or_old m traces q k g y))
            (λ (x' : (m.at ≡ p) × ((m ≡ f) × (n ≡ length (traces p)))). ⊎_elim
            (λ (y' : Stands (traces q) k g). inl (subst (λ h. k < h.seen q) x'.1.0 (subst (λ i. k < i) (sym (s.seen q)) (s.number q k g y' (e ∙ ap (λ h. h.by) (sym x'.1.0))))))
            (λ (y' : (m.at ≡ q) × ((m ≡ g) × (k ≡ length (traces q)))). let same : p ≡ q = sym x'.0 ∙ y'.0 in inr (inr (same, x'.1.1 ∙ ap (λ z. length (traces z)) same ∙ sym y'.1.1)))
            (new_or_old m traces q k g y))
            (new_or_old m traces p n f x);
        caller = caller;
        owned = λ p n f x t h. ⊎_elim (λ y. a.owned p n f y t h ∙ sym (kept p n f y t h)) (λ y. subst (λ g. touches g.event t ≡ true → g.by ≡ caller t) y.1.0 (s.owned t) h) (new_or_old m traces p n f x);
        allowed = λ p n f x. ⊎_elim
            (λ y. let w = still p n f y in record {
              run = w.run;
              seen = λ q. let l = longer_by m traces q in w.seen q ∙ sym (ap (first_of_trace (f.seen q)) l.1 ∙ first_skips (f.seen q) l.0 (traces q) (a.within p n f y q));
              state = w.state;
              is_run = w.is_run;
              may = w.may;
              mine = w.mine;
              new = w.new;
              fit = w.fit;
            })
            (λ y. subst (λ g. WasAllowed kinds sites parts next caller g) y.1.0 (record {
              run = s.run;
              seen = λ q. let l = longer_by m traces q in s.order q ∙ sym (ap (λ i. first_of_trace i (next q)) (s.seen q) ∙ ap (first_of_trace (length (view q))) (l.1 ∙ ap (λ z. l.0 ++ z) (s.part.fronts q)) ∙ first_skips (length (view q)) l.0 (s.part.rest q ++ view q) (subst (λ z. length (view q) ≤ length z) (s.part.fronts q) (down q)) ∙ first_skips (length (view q)) (s.part.rest q) (view q) (le_refl _) ∙ first_all (view q));
              state = s.left;
              is_run = s.is_run;
              may = s.may;
              mine = s.mine;
              new = s.new;
              fit = s.fit;
            }))
            (new_or_old m traces p n f x);
      }
    where
      place_at : PartId → Mark E → Type 0
      place_at z f = IsPlace sites parts z × (f.at ≡ z)

      -- of what stands in a trace the first ones stand in its front
      seen_stands : (top low : List (Mark E)) (k : ℕ) (f : Mark E) → Stands (top ++ low) k f → k < length low → Stands low k f
      seen_stands [] low k f x l = x
      seen_stands (y ∷ top) low k f x l = ⊎_elim
          (λ (z : (y ≡ f) × (k ≡ length (top ++ low))). let e = length-append top low in let i = z.1 in absurd (omega arith))
          (λ (z : Stands (top ++ low) k f). seen_stands top low k f z l)
          x
