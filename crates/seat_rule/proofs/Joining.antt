-- A join keeps the rule.
use Rattle.std.proofs.Common.{◌≡◌, ◌≢◌, ⊎_elim, ℕ, List, [], ◌++◌, set, Bool, true, false, true≢false, refl, sym, ap, ◌∙◌, subst, arith, cond, le_trans}
use Rattle.std.specs.Prelude.{◌||◌}
use Rattle.std.proofs.lemmas.Bool.{cases_Bool}
use mathlib.Core.Option.{some, some-ne-none}
use lib.ListN.{get_elem?}
use Rattle.atomic_table.specs.Table.{Joins}
use Rattle.atomic_table.proofs.Lists.{at_set}
use Rattle.seat_rule.specs.declared.view.Noted.{Noted}
use Rattle.seat_rule.specs.declared.view.View.{View}
use Rattle.seat_rule.specs.Lists.{has, at, longest}
use Rattle.seat_rule.specs.Views.{past, both, spent}
use Rattle.seat_rule.specs.Notes.{Knows}
use Rattle.seat_rule.specs.Kept.{Fits, Kept}
use Rattle.seat_rule.proofs.Lists.{has_append, longest_at, longer_from, total_first, total_second}
use Rattle.seat_rule.proofs.Fronts.{put_same, bears_none, knows_both, was_within, met_within, left_whole, right_whole, prefix_length}
use Rattle.seat_rule.proofs.Seating.{off}

module _ {T : Type 0} (law : (ℕ → List (Noted T)) → Type 0) (n : ℕ) where
  or_right : (a b : Bool) → (a || b) ≡ true → b ≡ false → a ≡ true
  or_right true b e h = refl
  or_right false b e h = absurd (true≢false (sym e ∙ h))

  pub joins : (id : ℕ) (v : View T) (other : ℕ) (w : View T) → Joins {S = ℕ} (Kept law n) id v other w (both v w) spent
  joins id v other w s kept at_id apart there =
      let b = both v w in
      let there' : get_elem? s.views other ≡ some w = ⊎_elim (λ (t : (other ≡ id) × (b ≡ w)). absurd (apart t.0)) (λ (t : (other ≢ id) × (get_elem? s.views other ≡ some w)). t.1) (at_set s.views id other b w there) in
      let f = kept.each id v at_id in
      let g = kept.each other w there' in
      let writer' : ℕ → ℕ = λ q. cond (has w.past.writes q) id (kept.writer q) in
      let holder' : ℕ → ℕ = λ k. cond (has w.past.numbers k) id (kept.holder k) in
      let P : ℕ → View T → Type 0 = λ j u. Fits n kept.logs kept.count writer' holder' j u in
      let joined : (p : ℕ) → Knows (v.past.numbers ++ w.past.numbers) (at (longest v.past.lists w.past.lists) p) (kept.logs p) = λ p. subst (λ l. Knows (v.past.numbers ++ w.past.numbers) l (kept.logs p)) (sym (longest_at v.past.lists w.past.lists p)) (knows_both v.past.numbers w.past.numbers (at v.past.lists p) (at w.past.lists p) (kept.logs p) (f.front p) (g.front p)) in
      let as_left : (p : ℕ) → at v.past.lists p ≡ kept.logs p → at (longest v.past.lists w.past.lists) p ≡ at v.past.lists p = λ p e. longest_at v.past.lists w.past.lists p ∙ left_whole w.past.numbers (at v.past.lists p) (at w.past.lists p) (kept.logs p) e (g.front p) in
      let as_right : (p : ℕ) → at w.past.lists p ≡ kept.logs p → at (longest v.past.lists w.past.lists) p ≡ at w.past.lists p = λ p e. longest_at v.past.lists w.past.lists p ∙ right_whole v.past.numbers (at v.past.lists p) (at w.past.lists p) (kept.logs p) (f.front p) e in
      let was : (p : ℕ) → Knows v.past.numbers (at v.past.lists p) (at (longest v.past.lists w.past.lists) p) = λ p. subst (Knows v.past.numbers (at v.past.lists p)) (sym (longest_at v.past.lists w.past.lists p)) (was_within v.past.numbers (at v.past.lists p) (at w.past.lists p) (kept.logs p) w.past.numbers (f.front p) (g.front p)) in
      let met : (p : ℕ) → Knows w.past.numbers (at w.past.lists p) (at (longest v.past.lists w.past.lists) p) = λ p. subst (Knows w.past.numbers (at w.past.lists p)) (sym (longest_at v.past.lists w.past.lists p)) (met_within v.past.numbers (at v.past.lists p) (at w.past.lists p) (kept.logs p) w.past.numbers (f.front p) (g.front p)) in
      let after : P id b = record {
        front = joined;
        whole = λ q h. ⊎_elim
            (λ (t : has w.past.writes q ≡ true). (sym (ap (λ c. cond c id (kept.writer q)) t), as_right q (g.whole q t).1 ∙ (g.whole q t).1))
            (λ (t : has w.past.writes q ≡ false). let m = f.whole q (or_right (has v.past.writes q) (has w.past.writes q) (sym (has_append v.past.writes w.past.writes q) ∙ h) t) in (m.0 ∙ sym (ap (λ c. cond c id (kept.writer q)) t), as_left q m.1 ∙ m.1))
            (cases_Bool (has w.past.writes q));
        draws = λ h. ⊎_elim
            (λ (t : has w.past.writes n ≡ true). let d = g.draws t in let m = f.most in omega arith)
            (λ (t : has w.past.writes n ≡ false). let d = f.draws (or_right (has v.past.writes n) (has w.past.writes n) (sym (has_append v.past.writes w.past.writes n) ∙ h) t) in let m = g.most in omega arith)
            (cases_Bool (has w.past.writes n));
        most = (let m = f.most in let k = g.most in omega arith);
        holds = λ k h. ⊎_elim
            (λ (t : has w.past.numbers k ≡ true). (sym (ap (λ c. cond c id (kept.holder k)) t), (g.holds k t).1))
            (λ (t : has w.past.numbers k ≡ false). let m = f.holds k (or_right (has v.past.numbers k) (has w.past.numbers k) (sym (has_append v.past.numbers w.past.numbers k) ∙ h) t) in (m.0 ∙ sym (ap (λ c. cond c id (kept.holder k)) t), m.1))
            (cases_Bool (has w.past.numbers k));
        is_put = record {
          closed = λ p i e h r. ⊎_elim
              (λ (o : get_elem? (at v.past.lists p) i ≡ some e). le_trans (f.is_put.closed p i e o r) (prefix_length (at v.past.lists r) (at (longest v.past.lists w.past.lists) r) ((was r).0, (was r).1)))
              (λ (o : get_elem? (at w.past.lists p) i ≡ some e). le_trans (g.is_put.closed p i e o r) (prefix_length (at w.past.lists r) (at (longest v.past.lists w.past.lists) r) ((met r).0, (met r).1)))
              (longer_from (at v.past.lists p) (at w.past.lists p) i e (subst (λ l. get_elem? l i ≡ some e) (longest_at v.past.lists w.past.lists p) h));
          stamped = λ p i e h. ⊎_elim
              (λ (o : get_elem? (at v.past.lists p) i ≡ some e). le_trans (f.is_put.stamped p i e o) (total_first v.past.lists w.past.lists))
              (λ (o : get_elem? (at w.past.lists p) i ≡ some e). le_trans (g.is_put.stamped p i e o) (total_second v.past.lists w.past.lists))
              (longer_from (at v.past.lists p) (at w.past.lists p) i e (subst (λ l. get_elem? l i ≡ some e) (longest_at v.past.lists w.past.lists p) h));
          was_closed = f.is_put.closed;
          met_closed = g.is_put.closed;
          was = record { knows = was; whole = λ q h. sym (as_left q (f.whole q h).1) };
          met = record { knows = met; whole = λ q h. sym (as_right q (g.whole q h).1) };
        };
      } in
      record {
        logs = kept.logs;
        lawful = kept.lawful;
        count = kept.count;
        writer = writer';
        holder = holder';
        words = kept.words;
        last = kept.last;
        size = kept.size;
        bears = kept.bears;
        each = λ j u e. ⊎_elim
            (λ (t : (j ≡ other) × (spent ≡ u)). subst (λ x. P j x) t.1 (record {
              front = λ p. (kept.logs p, refl, bears_none (kept.logs p));
              whole = λ p h. off h;
              draws = λ h. off h;
              most = omega arith;
              holds = λ k h. off h;
              is_put = put_same (past [] [] []) 0 (λ p i e h. absurd (some-ne-none e (sym h))) (λ p i e h. absurd (some-ne-none e (sym h)));
            }))
            (λ (t : (j ≢ other) × (get_elem? (set s.views id b) j ≡ some u)). ⊎_elim
            (λ (r : (j ≡ id) × (b ≡ u)). subst (λ (y : ℕ × View T). P y.0 y.1) (λ i. (sym r.0 i, r.1 i)) after)
            (λ (r : (j ≢ id) × (get_elem? s.views j ≡ some u)). let h = kept.each j u r.1 in record {
              front = h.front;
              whole = λ q x. ((h.whole q x).0 ∙ sym (ap (λ c. cond c id (kept.writer q)) (⊎_elim (λ (y : has w.past.writes q ≡ true). absurd (t.0 ((h.whole q x).0 ∙ sym (g.whole q y).0))) (λ y. y) (cases_Bool (has w.past.writes q)))), (h.whole q x).1);
              draws = h.draws;
              most = h.most;
              holds = λ k x. ((h.holds k x).0 ∙ sym (ap (λ c. cond c id (kept.holder k)) (⊎_elim (λ (y : has w.past.numbers k ≡ true). absurd (t.0 ((h.holds k x).0 ∙ sym (g.holds k y).0))) (λ y. y) (cases_Bool (has w.past.numbers k)))), (h.holds k x).1);
              is_put = h.is_put;
            })
            (at_set s.views id j b u t.1))
            (at_set (set s.views id b) other j spent u e);
      }
