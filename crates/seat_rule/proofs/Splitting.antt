-- Splits keep the rule.
use Rattle.std.proofs.Common.{◌≡◌, ⊎_elim, ℕ, List, [], ◌∷◌, length, set, Bool, true, false, true≢false, refl, sym, ap, ◌∙◌, subst, arith, cond}
use Rattle.std.specs.Prelude.{◌||◌, ◌==◌}
use Rattle.std.proofs.lemmas.Bool.{cases_Bool}
use mathlib.Core.Option.{some}
use lib.ListN.{get_elem?}
use Rattle.atomic_table.specs.Table.{Splits}
use Rattle.atomic_table.proofs.Lists.{set_again}
use Rattle.seat_rule.specs.declared.view.Noted.{Noted}
use Rattle.seat_rule.specs.declared.view.View.{View}
use Rattle.seat_rule.specs.Lists.{has, front_of, behind}
use Rattle.seat_rule.specs.Views.{past, reader, without, first_writer, other_writer}
use Rattle.seat_rule.specs.Kept.{Fits, Kept}
use Rattle.seat_rule.proofs.Lists.{at_last_is}
use Rattle.seat_rule.proofs.Fronts.{put_same, bears_none}
use Rattle.seat_rule.proofs.Seating.{off, view_set}

module _ {T : Type 0} (law : (ℕ → List (Noted T)) → Type 0) (n : ℕ) where
  -- a view that only reads
  reads : (logs : ℕ → List (Noted T)) (count : ℕ) (writer holder writer' holder' : ℕ → ℕ) (id j : ℕ) (v : View T) → Fits n logs count writer holder id v → Fits n logs count writer' holder' j (reader v.past.lists [])
  reads logs count writer holder writer' holder' id j v f = record {
    front = λ p. let k = f.front p in (k.0, k.1, bears_none k.0);
    whole = λ p h. off h;
    draws = λ h. off h;
    most = omega arith;
    holds = λ k h. off h;
    is_put = put_same (past v.past.lists [] []) 0 f.is_put.closed f.is_put.stamped;
  }

  pub copies : (id : ℕ) (v : View T) → Splits {S = ℕ} (Kept law n) id v v (reader v.past.lists [])
  copies id v s kept at_id = record {
    logs = kept.logs;
    lawful = kept.lawful;
    count = kept.count;
    writer = kept.writer;
    holder = kept.holder;
    words = kept.words;
    last = kept.last;
    size = kept.size;
    bears = kept.bears;
    each = λ j u e. ⊎_elim
        (λ (was : get_elem? (set s.views id v) j ≡ some u). kept.each j u (subst (λ l. get_elem? l j ≡ some u) (set_again s.views id v at_id) was))
        (λ (new : (reader v.past.lists [] ≡ u) × (j ≡ length (set s.views id v))). subst (λ x. Fits n kept.logs kept.count kept.writer kept.holder j x) new.0 (reads kept.logs kept.count kept.writer kept.holder kept.writer kept.holder id j v (kept.each id v at_id)))
        (at_last_is (set s.views id v) (reader v.past.lists []) u j e);
  }

  pub hands : (id : ℕ) (v : View T) → Splits {S = ℕ} (Kept law n) id v (without v) (reader v.past.lists v.past.numbers)
  hands id v s kept at_id =
      let new = length (set s.views id (without v)) in
      let next : ℕ → ℕ = λ k. cond (has v.past.numbers k) new (kept.holder k) in
      let f = kept.each id v at_id in
      record {
        logs = kept.logs;
        lawful = kept.lawful;
        count = kept.count;
        writer = kept.writer;
        holder = next;
        words = kept.words;
        last = kept.last;
        size = kept.size;
        bears = kept.bears;
        each = λ j u e. ⊎_elim
            (λ was. view_set (λ i x. Fits n kept.logs kept.count kept.writer next i x) s.views id (without v)
            (λ i x a g. let h = kept.each i x g in record {
              front = h.front;
              whole = h.whole;
              draws = h.draws;
              most = h.most;
              holds = λ k held. ((h.holds k held).0 ∙ sym (ap (λ b. cond b new (kept.holder k)) (⊎_elim (λ (t : has v.past.numbers k ≡ true). absurd (a ((h.holds k held).0 ∙ sym (f.holds k t).0))) (λ t. t) (cases_Bool (has v.past.numbers k)))), (h.holds k held).1);
              is_put = h.is_put;
            })
            (record {
              front = λ p. let k = f.front p in (k.0, k.1, bears_none k.0);
              whole = f.whole;
              draws = f.draws;
              most = f.most;
              holds = λ k h. off h;
              is_put = put_same (past v.past.lists [] v.past.writes) v.drawn f.is_put.closed f.is_put.stamped;
            })
            j u was)
            (λ (new_is : (reader v.past.lists v.past.numbers ≡ u) × (j ≡ new)). subst (λ x. Fits n kept.logs kept.count kept.writer next j x) new_is.0 (record {
              front = f.front;
              whole = λ p h. off h;
              draws = λ h. off h;
              most = omega arith;
              holds = λ k h. (new_is.1 ∙ sym (ap (λ b. cond b new (kept.holder k)) h), (f.holds k h).1);
              is_put = put_same (past v.past.lists v.past.numbers []) 0 f.is_put.closed f.is_put.stamped;
            }))
            (at_last_is (set s.views id (without v)) (reader v.past.lists v.past.numbers) u j e);
      }

  or_true : (a b : Bool) → b ≡ true → (a || b) ≡ true
  or_true true b e = refl
  or_true false b e = e

  or_first : (a b : Bool) → (a || false) ≡ true → (a || b) ≡ true
  or_first true b e = refl
  or_first false b e = off e

  behind_has : (ws : List ℕ) (q : ℕ) → has (behind ws) q ≡ true → has ws q ≡ true
  behind_has [] q h = h
  behind_has (w ∷ ws) q h = or_true (w == q) (has ws q) h

  front_has : (ws : List ℕ) (q : ℕ) → has (front_of ws) q ≡ true → has ws q ≡ true
  front_has [] q h = h
  front_has (w ∷ ws) q h = or_first (w == q) (has ws q) h

  pub shares : (id : ℕ) (v : View T) → ((q : ℕ) → has (front_of v.past.writes) q ≡ true → has (behind v.past.writes) q ≡ false) → Splits {S = ℕ} (Kept law n) id v (other_writer v) (first_writer v)
  shares id v single s kept at_id =
      let left : View T = other_writer v in
      let right : View T = first_writer v in
      let new = length (set s.views id left) in
      let next : ℕ → ℕ = λ q. cond (has (front_of v.past.writes) q) new (kept.writer q) in
      let f = kept.each id v at_id in
      record {
        logs = kept.logs;
        lawful = kept.lawful;
        count = kept.count;
        writer = next;
        holder = kept.holder;
        words = kept.words;
        last = kept.last;
        size = kept.size;
        bears = kept.bears;
        each = λ j u e. ⊎_elim
            (λ was. view_set (λ i x. Fits n kept.logs kept.count next kept.holder i x) s.views id left
            (λ i x a g. let h = kept.each i x g in record {
              front = h.front;
              whole = λ q y. ((h.whole q y).0 ∙ sym (ap (λ b. cond b new (kept.writer q)) (⊎_elim (λ (t : has (front_of v.past.writes) q ≡ true). absurd (a ((h.whole q y).0 ∙ sym (f.whole q (front_has v.past.writes q t)).0))) (λ t. t) (cases_Bool (has (front_of v.past.writes) q)))), (h.whole q y).1);
              draws = h.draws;
              most = h.most;
              holds = h.holds;
              is_put = h.is_put;
            })
            (record {
              front = f.front;
              whole = λ q y. let m = f.whole q (behind_has v.past.writes q y) in (m.0 ∙ sym (ap (λ b. cond b new (kept.writer q)) (⊎_elim (λ (t : has (front_of v.past.writes) q ≡ true). absurd (true≢false (sym y ∙ single q t))) (λ t. t) (cases_Bool (has (front_of v.past.writes) q)))), m.1);
              draws = λ y. f.draws (behind_has v.past.writes n y);
              most = f.most;
              holds = f.holds;
              is_put = put_same (past v.past.lists v.past.numbers (behind v.past.writes)) v.drawn f.is_put.closed f.is_put.stamped;
            })
            j u was)
            (λ (is : (right ≡ u) × (j ≡ new)). subst (λ x. Fits n kept.logs kept.count next kept.holder j x) is.0 (record {
              front = λ p. let k = f.front p in (k.0, k.1, bears_none k.0);
              whole = λ q y. (is.1 ∙ sym (ap (λ b. cond b new (kept.writer q)) y), (f.whole q (front_has v.past.writes q y)).1);
              draws = λ y. f.draws (front_has v.past.writes n y);
              most = f.most;
              holds = λ k h. off h;
              is_put = put_same (past v.past.lists [] (front_of v.past.writes)) v.drawn f.is_put.closed f.is_put.stamped;
            }))
            (at_last_is (set s.views id left) right u j e);
      }
