-- A look keeps the rule, and tells what it says of a view.
use Rattle.std.proofs.Common.{◌≡◌, ℕ, ◌<◌, List, length, true, refl, sym, ap, ◌∙◌, subst}
use Rattle.std.specs.Prelude.{slice_index}
use Rattle.std.proofs.lemmas.List.{set-get_or}
use mathlib.Core.Option.{some}
use lib.ListN.{get_elem?}
use Rattle.atomic_table.specs.Table.{Me, State, Allows, keeps, stepped}
use Rattle.atomic_table.proofs.Lists.{set_again}
use Rattle.seat_rule.specs.declared.view.Noted.{Noted}
use Rattle.seat_rule.specs.declared.view.View.{View}
use Rattle.seat_rule.specs.Laws.{KeepsParts, Heard}
use Rattle.seat_rule.specs.Lists.{has, at}
use Rattle.seat_rule.specs.Notes.{AllBelow, AreDrawn}
use Rattle.seat_rule.specs.Kept.{Kept}
use Rattle.seat_rule.proofs.Fronts.{below_front}

module _ {T : Type 0} (law : (ℕ → List (Noted T)) → Type 0) (n : ℕ) where
  -- what is looked at stays
  still : (i slots id : ℕ) (me : Me ℕ (View T)) (s : State ℕ (View T)) → Kept law n s → get_elem? s.views id ≡ some me.0 → Kept law n (stepped s i (slice_index s.words i) id me.1 me.0 keeps)
  still i slots id me s kept at_id =
      let same = set-get_or s.words i 0 in
      record {
        logs = kept.logs;
        lawful = kept.lawful;
        count = kept.count;
        writer = kept.writer;
        holder = kept.holder;
        words = λ p l. ap (λ ws. slice_index ws p) same ∙ kept.words p l;
        last = ap (λ ws. slice_index ws n) same ∙ kept.last;
        size = ap length same ∙ kept.size;
        bears = kept.bears;
        each = λ j u e. kept.each j u (subst (λ l. get_elem? l j ≡ some u) (set_again s.views id me.0 at_id) e);
      }

  pub looks : KeepsParts law → (slots id : ℕ) (me : Me ℕ (View T)) → Allows (Kept law n) slots id me 0 (λ k. k) (λ k w. Heard law me.0 × (w ≡ me))
  looks parts slots id me s kept hl at_id below =
      let mine = kept.each id me.0 at_id in (
        me.0,
        keeps,
        tt,
        still 0 slots id me s kept at_id,
        (record { lawful = parts me.0.past.lists kept.logs kept.lawful (record { fronts = λ q. let k = mine.front q in (k.0, k.1); closed = mine.is_put.closed }); is_put = mine.is_put }, refl),
      )

  -- who draws the numbers knows how many were drawn
  pub looks_at_numbers : (slots id : ℕ) (me : Me ℕ (View T)) → has me.0.past.writes n ≡ true → Allows (Kept law n) slots id me n (λ k. k) (λ k w. AreDrawn me.0 × (w ≡ me))
  looks_at_numbers slots id me writes s kept hl at_id below =
      let mine = kept.each id me.0 at_id in
      let is : kept.count ≡ me.0.drawn = sym (mine.draws writes) in (
        me.0,
        keeps,
        tt,
        still n slots id me s kept at_id,
        (
          record {
            held = λ k h. subst (λ c. k < c) is (mine.holds k h).1;
            borne = λ p. subst (λ c. AllBelow c (at me.0.past.lists p)) is (let f = mine.front p in below_front kept.count (at me.0.past.lists p) f.0 (subst (AllBelow kept.count) (sym f.1) (kept.bears p)));
          },
          refl,
        ),
      )
