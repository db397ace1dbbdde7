-- A step of a partition keeps the rule.
use Rattle.std.proofs.Common.{◌≡◌, ◌≢◌, ⊎_elim, ℕ, ◌+◌, ◌<◌, ◌≤◌, ◌%◌, ◌^◌, List, [], ◌∷◌, ◌++◌, length, true, false, refl, sym, ap, ◌∙◌, subst, arith, append_assoc, length-append, le_trans}
use Rattle.std.specs.Prelude.{slice_index, slice_set}
use Rattle.std.proofs.lemmas.List.{get_or-set_same, get_or-set_other, length-set}
use Rattle.std.proofs.lemmas.Bool.{cases_Bool, cases_eq}
use mathlib.Core.Option.{some}
use lib.ListN.{get_elem?}
use Rattle.atomic_table.specs.Table.{Me, Allows, keeps}
use Rattle.seat_rule.specs.declared.view.Noted.{Noted}
use Rattle.seat_rule.specs.declared.view.View.{View}
use Rattle.seat_rule.specs.Lists.{has, at, cite, lens, total, grown}
use Rattle.seat_rule.specs.Views.{past, noting, IsNoted}
use Rattle.seat_rule.specs.Notes.{AllBelow, Knows, IsClosed, IsStamped, with_note}
use Rattle.seat_rule.specs.Laws.{MayNote}
use Rattle.seat_rule.specs.Kept.{Fits, Kept}
use Rattle.seat_rule.proofs.Lists.{put_here, put_else, grown_here, grown_else, cite_lens, at_last_is, total_grown}
use Rattle.seat_rule.proofs.Fronts.{below_one, grown_front, put_same, bears_one, knows_all, prefix_length}
use Rattle.seat_rule.proofs.Seating.{view_set}

module _ {T : Type 0} (law : (ℕ → List (Noted T)) → Type 0) (n : ℕ) where
  abbrev pub Added : (Noted T → Type 0) → ℕ → Me ℕ (View T) → ℕ → Me ℕ (View T) → Type 0
  Added like p v k w = (k ≡ length (at v.0.past.lists p)) × IsNoted like p v w

  module _ (logs : ℕ → List (Noted T)) (count : ℕ) (writer holder : ℕ → ℕ) (id p : ℕ) (e : Noted T) where
    abbrev longer_log : ℕ → List (Noted T)
    longer_log = with_note logs p e

    -- at p one way, elsewhere another
    at_log : (P : ℕ → List (Noted T) → Type 0) → P p (logs p ++ e ∷ []) → ((q : ℕ) → q ≢ p → P q (logs q)) → (q : ℕ) → P q (longer_log q)
    at_log P here else q = ⊎_elim
        (λ (h : q ≡ p). subst (λ k. P k (longer_log k)) (sym h) (subst (P p) (sym (put_here logs p (logs p ++ e ∷ []))) here))
        (λ (h : q ≢ p). subst (P q) (sym (put_else logs p q (logs p ++ e ∷ []) h)) (else q h))
        (cases_eq q p)

    -- another seat
    step_else : (j : ℕ) (u : View T) → j ≢ id → id ≡ writer p → id ≡ holder e.by → Fits n logs count writer holder j u → Fits n longer_log count writer holder j u
    step_else j u apart mine held f = record {
      front = at_log (λ q l. Knows u.past.numbers (at u.past.lists q) l)
          (let k = f.front p in (k.0 ++ e ∷ [], sym (append_assoc (at u.past.lists p) k.0 (e ∷ [])) ∙ ap (λ l. l ++ e ∷ []) k.1, bears_one u.past.numbers k.0 e k.2 none))
          (λ q h. f.front q);
      whole = at_log (λ q l. has u.past.writes q ≡ true → (j ≡ writer q) × (at u.past.lists q ≡ l))
          (λ h. absurd (apart ((f.whole p h).0 ∙ sym mine)))
          (λ q _ h. f.whole q h);
      draws = f.draws;
      most = f.most;
      holds = f.holds;
      is_put = f.is_put;
    }
      where
        none : has u.past.numbers e.by ≡ false
        none = ⊎_elim (λ (h : has u.past.numbers e.by ≡ true). absurd (apart ((f.holds e.by h).0 ∙ sym held))) (λ h. h) (cases_Bool (has u.past.numbers e.by))

    -- the seat itself
    step_here : (v : View T) → has v.past.writes p ≡ true → e.cites ≡ lens v.past.lists → e.stamp ≤ total v.past.lists + 1 → Fits n logs count writer holder id v → Fits n longer_log count writer holder id (noting v p e)
    step_here v writes cites low f =
        let ls = v.past.lists in
        let all : at ls p ≡ logs p = (f.whole p writes).1 in
        let here : at (grown ls p e) p ≡ logs p ++ e ∷ [] = grown_here ls p e ∙ ap (λ l. l ++ e ∷ []) all in
        record {
          front = at_log (λ q l. Knows v.past.numbers (at (grown ls p e) q) l)
              (subst (λ l. Knows v.past.numbers l (logs p ++ e ∷ [])) (sym here) (knows_all v.past.numbers (logs p ++ e ∷ [])))
              (λ q h. subst (λ l. Knows v.past.numbers l (logs q)) (sym (grown_else ls p q e h)) (f.front q));
          whole = at_log (λ q l. has v.past.writes q ≡ true → (id ≡ writer q) × (at (grown ls p e) q ≡ l))
              (λ h. ((f.whole p h).0, here))
              (λ q a h. ((f.whole q h).0, grown_else ls p q e a ∙ (f.whole q h).1));
          draws = f.draws;
          most = f.most;
          holds = f.holds;
          is_put = put_same (past (grown ls p e) v.past.numbers v.past.writes) v.drawn (closes ls cites f.is_put.closed) (stamps ls low f.is_put.stamped);
        }
      where
        up : (ls : List (List (Noted T))) (q : ℕ) → length (at ls q) ≤ length (at (grown ls p e) q)
        up ls q = prefix_length (at ls q) (at (grown ls p e) q) (grown_front ls p q e)

        closes : (ls : List (List (Noted T))) → e.cites ≡ lens ls → IsClosed ls → IsClosed (grown ls p e)
        closes ls cites c q i x g r =
            let old = λ (k : ℕ) (h : get_elem? (at ls k) i ≡ some x). le_trans (c k i x h r) (up ls r) in
            ⊎_elim
            (λ (h : q ≡ p). ⊎_elim
            (λ (o : get_elem? (at ls p) i ≡ some x). old p o)
            (λ (o : (e ≡ x) × (i ≡ length (at ls p))). subst (λ y. cite y.cites r ≤ length (at (grown ls p e) r)) o.0 (subst (λ k. k ≤ length (at (grown ls p e) r)) (sym (ap (λ z. cite z r) cites ∙ cite_lens ls r)) (up ls r)))
            (at_last_is (at ls p) e x i (subst (λ l. get_elem? l i ≡ some x) (ap (λ k. at (grown ls p e) k) h ∙ grown_here ls p e) g)))
            (λ (h : q ≢ p). old q (subst (λ l. get_elem? l i ≡ some x) (grown_else ls p q e h) g))
            (cases_eq q p)

        stamps : (ls : List (List (Noted T))) → e.stamp ≤ total ls + 1 → IsStamped ls → IsStamped (grown ls p e)
        stamps ls low c q i x g =
            let sum = total_grown ls p e in
            let old : (k : ℕ) → get_elem? (at ls k) i ≡ some x → x.stamp ≤ total (grown ls p e) = λ k h. (let l = c k i x h in omega arith) in
            let mine : e.stamp ≤ total (grown ls p e) = omega arith in
            ⊎_elim
            (λ (h : q ≡ p). ⊎_elim
            (λ (o : get_elem? (at ls p) i ≡ some x). old p o)
            (λ (o : (e ≡ x) × (i ≡ length (at ls p))). subst (λ (y : Noted T). y.stamp ≤ total (grown ls p e)) o.0 mine)
            (at_last_is (at ls p) e x i (subst (λ l. get_elem? l i ≡ some x) (ap (λ k. at (grown ls p e) k) h ∙ grown_here ls p e) g)))
            (λ (h : q ≢ p). old q (subst (λ l. get_elem? l i ≡ some x) (grown_else ls p q e h) g))
            (cases_eq q p)

  pub appends : (like : Noted T → Type 0) (slots id p : ℕ) (me : Me ℕ (View T)) → p < n → has me.0.past.writes p ≡ true → MayNote law like me.0.past p → length (at me.0.past.lists p) + 1 < 2 ^ 64 → Allows (Kept law n) slots id me p (λ k. (k + 1) % 2 ^ 64) (Added like p me)
  appends like slots id p me small writes found room s kept hl at_id below =
      let e = found.note in
      let mine = kept.each id me.0 at_id in
      let whole = mine.whole p writes in
      let w = noting me.0 p e in
      let value : (slice_index s.words p + 1) % 2 ^ 64 ≡ length (kept.logs p ++ e ∷ []) = omega (arith, kept.words p small, ap length whole.1, length-append (kept.logs p) (e ∷ []), room) in
      let there : p < length s.words = let z = kept.size in omega arith in (
        w,
        keeps,
        tt,
        record {
          logs = longer_log kept.logs kept.count kept.writer kept.holder id p e;
          lawful = found.may kept.logs kept.lawful mine.front whole.1;
          count = kept.count;
          writer = kept.writer;
          holder = kept.holder;
          words = at_log kept.logs kept.count kept.writer kept.holder id p e (λ q l. q < n → slice_index (slice_set s.words p ((slice_index s.words p + 1) % 2 ^ 64)) q ≡ length l)
              (λ _. get_or-set_same s.words p ((slice_index s.words p + 1) % 2 ^ 64) 0 there ∙ value)
              (λ q a l. get_or-set_other s.words p q ((slice_index s.words p + 1) % 2 ^ 64) 0 a ∙ kept.words q l);
          last = get_or-set_other s.words p n ((slice_index s.words p + 1) % 2 ^ 64) 0 (λ h. omega (arith, h)) ∙ kept.last;
          size = length-set s.words p ((slice_index s.words p + 1) % 2 ^ 64) ∙ kept.size;
          bears = at_log kept.logs kept.count kept.writer kept.holder id p e (λ q l. AllBelow kept.count l) (below_one kept.count (kept.logs p) e (kept.bears p) (mine.holds e.by found.holder).1) (λ q _. kept.bears q);
          each = view_set (λ j u. Fits n (longer_log kept.logs kept.count kept.writer kept.holder id p e) kept.count kept.writer kept.holder j u) s.views id w
              (λ j u a g. step_else kept.logs kept.count kept.writer kept.holder id p e j u a whole.0 (mine.holds e.by found.holder).0 (kept.each j u g))
              (step_here kept.logs kept.count kept.writer kept.holder id p e me.0 writes found.cites found.stamp mine);
        },
        (kept.words p small ∙ ap length (sym whole.1), record { note = e; is = found.is; added = refl }),
      )
  -- a view that only reads
