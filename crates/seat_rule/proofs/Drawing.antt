-- A draw of a number keeps the rule.
use Rattle.std.proofs.Common.{◌≡◌, ⊎_elim, ℕ, ◌+◌, ◌<◌, ◌%◌, ◌^◌, List, [], ◌∷◌, length, true, false, refl, sym, ap, ◌∙◌, subst, arith}
use Rattle.std.specs.Prelude.{slice_index, ◌||◌, ◌==◌}
use Rattle.std.proofs.lemmas.List.{get_or-set_same, get_or-set_other, length-set}
use Rattle.std.proofs.lemmas.Bool.{cases_Bool, eqb-true}
use Rattle.atomic_table.specs.Table.{Me, Allows, keeps}
use Rattle.seat_rule.specs.declared.view.Noted.{Noted}
use Rattle.seat_rule.specs.declared.view.View.{View}
use Rattle.seat_rule.specs.Lists.{put, has, at}
use Rattle.seat_rule.specs.Views.{past, taken}
use Rattle.seat_rule.specs.Notes.{NoneBears, AllBelow}
use Rattle.seat_rule.specs.Kept.{Fits, Kept}
use Rattle.seat_rule.proofs.Lists.{put_here, put_else}
use Rattle.seat_rule.proofs.Fronts.{below_back, below_more, put_same}
use Rattle.seat_rule.proofs.Seating.{view_set}

module _ {T : Type 0} (law : (ℕ → List (Noted T)) → Type 0) (n : ℕ) where
  fresh : (d c : ℕ) (ns : List ℕ) (xs : List (Noted T)) → d ≡ c → AllBelow c xs → NoneBears ns xs → NoneBears (d ∷ ns) xs
  fresh d c ns [] e b h = tt
  fresh d c ns (x ∷ xs) e b h = (ap (λ a. a || has ns x.by) (⊎_elim (λ (t : (d == x.by) ≡ true). let k = eqb-true d x.by t in let l = b.0 in absurd (omega arith)) (λ t. t) (cases_Bool (d == x.by))) ∙ h.0, fresh d c ns xs e b.1 h.1)

  pub draws : (slots id : ℕ) (me : Me ℕ (View T)) → has me.0.past.writes n ≡ true → me.0.drawn + 1 < 2 ^ 64 → Allows (Kept law n) slots id me n (λ k. (k + 1) % 2 ^ 64) (λ k w. (k ≡ me.0.drawn) × (w ≡ (taken me.0, me.1)))
  draws slots id me writes room s kept hl at_id below =
      let v = me.0 in
      let mine = kept.each id v at_id in
      let is : v.drawn ≡ kept.count = mine.draws writes in
      let value : (slice_index s.words n + 1) % 2 ^ 64 ≡ kept.count + 1 = omega (arith, kept.last, is, room) in
      let there : n < length s.words = let z = kept.size in omega arith in
      let next : ℕ → ℕ = put kept.holder kept.count id in (
        taken v,
        keeps,
        tt,
        record {
          logs = kept.logs;
          lawful = kept.lawful;
          count = kept.count + 1;
          writer = kept.writer;
          holder = next;
          words = λ p l. get_or-set_other s.words n p ((slice_index s.words n + 1) % 2 ^ 64) 0 (λ h. omega (arith, h, l)) ∙ kept.words p l;
          last = get_or-set_same s.words n ((slice_index s.words n + 1) % 2 ^ 64) 0 there ∙ value;
          size = length-set s.words n ((slice_index s.words n + 1) % 2 ^ 64) ∙ kept.size;
          bears = λ p. below_more kept.count (kept.logs p) (kept.bears p);
          each = view_set (λ j u. Fits n kept.logs (kept.count + 1) kept.writer next j u) s.views id (taken v)
              (λ j u a g. let h = kept.each j u g in record {
                front = h.front;
                whole = h.whole;
                draws = λ x. absurd (a ((h.whole n x).0 ∙ sym (mine.whole n writes).0));
                most = (let m = h.most in omega arith);
                holds = λ k x. let l = (h.holds k x).1 in ((h.holds k x).0 ∙ sym (put_else kept.holder kept.count k id (λ e. omega (arith, e, l))), omega arith);
                is_put = h.is_put;
              })
              (record {
                front = λ p. let k = mine.front p in (k.0, k.1, fresh v.drawn kept.count v.past.numbers k.0 is (below_back kept.count (at v.past.lists p) k.0 (subst (AllBelow kept.count) (sym k.1) (kept.bears p))) k.2);
                whole = mine.whole;
                draws = λ x. omega (arith, is);
                most = omega (arith, is);
                holds = λ k x. ⊎_elim
                    (λ (t : (v.drawn == k) ≡ true). let e : kept.count ≡ k = sym is ∙ eqb-true v.drawn k t in (subst (λ z. id ≡ next z) e (sym (put_here kept.holder kept.count id)), omega (arith, e)))
                    (λ (t : (v.drawn == k) ≡ false). let m = mine.holds k (sym (ap (λ b. b || has v.past.numbers k) t) ∙ x) in let l = m.1 in (m.0 ∙ sym (put_else kept.holder kept.count k id (λ e. omega (arith, e, l))), omega arith))
                    (cases_Bool (v.drawn == k));
                is_put = put_same (past v.past.lists (v.drawn ∷ v.past.numbers) v.past.writes) (v.drawn + 1) mine.is_put.closed mine.is_put.stamped;
              });
        },
        (kept.last ∙ sym is, refl),
      )
