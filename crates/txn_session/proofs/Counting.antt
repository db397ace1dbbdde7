-- Counting the participants.
use Rattle.std.proofs.Common.{◌≡◌, ⊎_elim, ℕ, zero, suc, ◌+◌, ◌<◌, cond, Bool, true, false, List, [], ◌∷◌, ◌++◌, length, get_or, set, take, refl, sym, ap, ◌∙◌, arith, add-one}
use Rattle.std.specs.Prelude.{◌||◌, filter}
use Rattle.std.specs.List.{list_any}
use Rattle.std.proofs.lemmas.Bool.{cases_Bool, cond-true, cond-false}
use Rattle.std.proofs.lemmas.List.{append-nil, take_more_set}
use Rattle.std.proofs.lemmas.List.Elements.{filter-append}
use Rattle.std.proofs.lemmas.List.Folds.{list_any_at}
use Rattle.crdt_core.specs.declared.record.Upd.{Upd}
use Rattle.world_model.specs.rules.Plan.{is_some_update}
use Rattle.txn_session.specs.Session.{updates_of, is_placed_at, numbers_from}

module _ {E : Type 0} where
  any_some : (f : Upd E → Bool) (us : List (Upd E)) → list_any f us ≡ is_some_update (filter f us)
  any_some f [] = refl
  any_some f (u ∷ us) = ⊎_elim
      (λ (k : f u ≡ true). ap (λ b. b || list_any f us) k ∙ ap is_some_update (sym (cond-true _ (u ∷ filter f us) (filter f us) k)))
      (λ (k : f u ≡ false). ap (λ b. b || list_any f us) k ∙ (any_some f us ∙ ap is_some_update (sym (cond-false _ (u ∷ filter f us) (filter f us) k))))
      (cases_Bool (f u))

  pub some_there : (parts q : ℕ) (us : List (Upd E)) (i : ℕ) (d : Upd E) → i < length us → is_placed_at parts q (get_or us i d) ≡ true → true ≡ is_some_update (updates_of parts us q)
  some_there parts q us i d low h = sym (list_any_at (is_placed_at parts q) us i d low h) ∙ any_some (is_placed_at parts q) us

numbers_more : (first n : ℕ) → numbers_from first (suc n) ≡ numbers_from first n ++ (first + n) ∷ []
numbers_more first zero = let e : first ≡ first + 0 = omega arith in ap (λ k. k ∷ []) e
numbers_more first (suc n) =
    let e : (first + 1) + n ≡ first + suc n = omega arith in
    ap (λ l. first ∷ l) (numbers_more (first + 1) n) ∙ ap (λ k. first ∷ (numbers_from (first + 1) n ++ k ∷ [])) e

module _ {E : Type 0} (parts : ℕ) (us : List (Upd E)) where
  abbrev pub counted : ℕ → List ℕ
  counted n = filter (λ p. is_some_update (updates_of parts us p)) (numbers_from 1 n)

  more_counted : (n : ℕ) → counted (n + 1) ≡ counted n ++ cond (is_some_update (updates_of parts us (n + 1))) ((n + 1) ∷ []) []
  more_counted n =
      let e : 1 + n ≡ n + 1 = omega arith in
      ap counted (add-one n) ∙ (ap (filter (λ p. is_some_update (updates_of parts us p))) (numbers_more 1 n) ∙ (filter-append (λ p. is_some_update (updates_of parts us p)) (numbers_from 1 n) ((1 + n) ∷ []) ∙ ap (λ k. counted n ++ cond (is_some_update (updates_of parts us k)) (k ∷ []) []) e))

  pub one_counted : (n : ℕ) → is_some_update (updates_of parts us (n + 1)) ≡ true → counted (n + 1) ≡ counted n ++ (n + 1) ∷ []
  one_counted n h = more_counted n ∙ ap (λ b. counted n ++ cond b ((n + 1) ∷ []) []) h

  pub none_counted : (n : ℕ) → is_some_update (updates_of parts us (n + 1)) ≡ false → counted (n + 1) ≡ counted n
  none_counted n h = more_counted n ∙ (ap (λ b. counted n ++ cond b ((n + 1) ∷ []) []) h ∙ append-nil (counted n))

  pub count_rises : (list next : List ℕ) (count more k : ℕ) → count < length list → take count list ≡ counted k → next ≡ set list count (k + 1) → more ≡ count + 1 → true ≡ is_some_update (updates_of parts us (k + 1)) → take more next ≡ counted (k + 1)
  count_rises list next count more k low is n m h = (λ i. take (m i) (n i)) ∙ (take_more_set list count (k + 1) low ∙ (ap (λ l. l ++ (k + 1) ∷ []) is ∙ sym (one_counted k (sym h))))

  pub count_stays : (list next : List ℕ) (count more k : ℕ) → take count list ≡ counted k → next ≡ list → more ≡ count → false ≡ is_some_update (updates_of parts us (k + 1)) → take more next ≡ counted (k + 1)
  count_stays list next count more k is n m h = (λ i. take (m i) (n i)) ∙ (is ∙ sym (none_counted k (sym h)))
