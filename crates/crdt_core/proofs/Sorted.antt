-- Ascending lists: what a search finds, and an insert at the place that it gives.
use Rattle.std.proofs.Common.{◌≡◌, ℕ, zero, suc, ◌+◌, ◌<◌, ◌≤◌, Bool, true, false, ◌||◌, List, [], ◌∷◌, length, get_or, Result, Ok, Err, IfOk, IfErr, refl, sym, ap, ◌∙◌, arith}
use Rattle.std.specs.List.{insert, list_any, AllByRecursion}
use Rattle.std.specs.List.Sorted.{IsStrictlySortedBy, IsSearchInRange, IsBinarySearchResult, IsNonDecreasingBy}
use Rattle.std.specs.declared.cmp.Ordering.{Ordering}
use Rattle.std.specs.declared.cmp.Ordering.TheVariants.{Less, Equal, Greater}
use Rattle.std.specs.Ordering.{is_eq, is_lt, eq_by_cmp, ordering_reverse, ordering_index, match_ordering}
use Rattle.std.specs.Cmp.{IsTotalOrder, tied_back}
use Rattle.std.specs.BTreeSet.{insert_key}
use Rattle.std.proofs.lemmas.List.Sorted.{searchable_from_sorted}
use Rattle.std.proofs.lemmas.Map.Keys.{Less-from_sorted}

module _ {K : Type 0} {R : K → K → Ordering} (o : IsTotalOrder R) where
  turned_Less : (x y : K) → R x y ≡ Less → R y x ≡ Greater
  turned_Less x y h = o.antisymm y x ∙ ap ordering_reverse h

  turned_Greater : (x y : K) → R x y ≡ Greater → R y x ≡ Less
  turned_Greater x y h = o.antisymm y x ∙ ap ordering_reverse h

  -- the comparisons with k rise along an ascending list
  rises : (ks : List K) (k : K) → IsStrictlySortedBy R ks → IsNonDecreasingBy (λ y. ordering_index (R y k)) ks
  rises ks k s = searchable_from_sorted o (λ x. x) ks k (λ i d low high.
      ap is_lt (turned_Less _ _ (Less-from_sorted R ks i (i + 1) d s (omega arith) high)))

  module _ (k : K) where
    -- k would go at place i: what is below it stands before, and what is above it from there on
    pub record IsGap (ks : List K) (i : ℕ) : Type 0 where
      pub in_range : i ≤ length ks
      pub before : (j : ℕ) (d : K) → j < i → R (get_or ks j d) k ≡ Less
      pub after : (j : ℕ) (d : K) → i ≤ j → j < length ks → R (get_or ks j d) k ≡ Greater

    tail_gap : (x : K) (ks : List K) (i : ℕ) → IsGap (x ∷ ks) (suc i) → IsGap ks i
    tail_gap x ks i g = record {
      in_range = omega (arith, g.in_range);
      before = λ j d lt. g.before (suc j) d (omega arith);
      after = λ j d le lt. g.after (suc j) d (omega arith) (omega arith);
    }

    tail_start : (x : K) (ks : List K) → IsGap (x ∷ ks) 0 → IsGap ks 0
    tail_start x ks g = record {
      in_range = omega arith;
      before = λ j d lt. absurd (omega arith);
      after = λ j d le lt. g.after (suc j) d (omega arith) (omega arith);
    }

    pub gap_lacks : (ks : List K) (i : ℕ) → IsGap ks i → list_any (eq_by_cmp R k) ks ≡ false
    gap_lacks [] i g = refl
    gap_lacks (x ∷ ks) zero g = ap (λ r. is_eq r || list_any (eq_by_cmp R k) ks) (turned_Greater x k (g.after 0 k (omega arith) (omega arith))) ∙ gap_lacks ks 0 (tail_start x ks g)
    gap_lacks (x ∷ ks) (suc i) g = ap (λ r. is_eq r || list_any (eq_by_cmp R k) ks) (turned_Less x k (g.before 0 k (omega arith))) ∙ gap_lacks ks i (tail_gap x ks i g)

    pub gap_insert : (ks : List K) (i : ℕ) → IsGap ks i → insert ks i k ≡ insert_key R ks k
    gap_insert [] zero g = refl
    gap_insert [] (suc i) g = absurd (omega (arith, g.in_range))
    gap_insert (x ∷ ks) zero g = sym (ap (λ r. match_ordering r (k ∷ x ∷ ks) (x ∷ ks) (x ∷ insert_key R ks k)) (turned_Greater x k (g.after 0 k (omega arith) (omega arith))))
    gap_insert (x ∷ ks) (suc i) g =
        ap (λ l. x ∷ l) (gap_insert ks i (tail_gap x ks i g)) ∙ sym (ap (λ r. match_ordering r (k ∷ x ∷ ks) (x ∷ ks) (x ∷ insert_key R ks k)) (turned_Less x k (g.before 0 k (omega arith))))

    pub place_has : (ks : List K) (i : ℕ) → i < length ks → R (get_or ks i k) k ≡ Equal → list_any (eq_by_cmp R k) ks ≡ true
    place_has [] i lt h = absurd (omega arith)
    place_has (x ∷ ks) zero lt h = ap (λ r. is_eq r || list_any (eq_by_cmp R k) ks) (tied_back o x k h)
    place_has (x ∷ ks) (suc i) lt h = ap (λ b. eq_by_cmp R k x || b) (place_has ks i (omega arith) h) ∙ or_true (eq_by_cmp R k x)
      where
        or_true : (b : Bool) → (b || true) ≡ true
        or_true true = refl
        or_true false = refl

    -- what is there needs no insert
    pub has_insert : (ks : List K) → IsStrictlySortedBy R ks → list_any (eq_by_cmp R k) ks ≡ true → insert_key R ks k ≡ ks
    unfolding IsStrictlySortedBy
    has_insert [] s h = absurd cc
    has_insert (x ∷ ks) s h = at (has_insert ks s.1) (R k x) refl h
      where
        lacks : (ys : List K) → AllByRecursion (λ y. R x y ≡ Less) ys → R k x ≡ Less → list_any (eq_by_cmp R k) ys ≡ false
        lacks [] a l = refl
        lacks (y ∷ ys) a l = ap (λ r. is_eq r || list_any (eq_by_cmp R k) ys) (o.trans k x y l a.0) ∙ lacks ys a.1 l

        at : (list_any (eq_by_cmp R k) ks ≡ true → insert_key R ks k ≡ ks) → (r : Ordering) → R k x ≡ r → (is_eq r || list_any (eq_by_cmp R k) ks) ≡ true → match_ordering r (k ∷ x ∷ ks) (x ∷ ks) (x ∷ insert_key R ks k) ≡ x ∷ ks
        at rest Less e m = absurd (let n = lacks ks s.0 e in cc)
        at rest Equal e m = refl
        at rest Greater e m = ap (λ l. x ∷ l) (rest m)

    -- what a binary search of an ascending list answers
    pub searched : (ks : List K) (r : Result ℕ ℕ) → IsStrictlySortedBy R ks → IsSearchInRange r (length ks) → IsBinarySearchResult (λ y. R y k) ks r
        → IfOk r (λ i. list_any (eq_by_cmp R k) ks ≡ true) × IfErr r (IsGap ks)
    searched ks (Ok i) s bound h = (place_has ks i bound (h k), tt)
    searched ks (Err i) s bound h =
        let parts = h (rises ks k s) in
        (tt, record { in_range = bound; before = λ j d lt. parts.0 j d (omega arith) lt; after = λ j d le lt. parts.1 j d le lt })

    by_rank : (P : List K → Type 0) (r : Ordering) (xs ys zs : List K) → (r ≡ Less → P xs) → (r ≡ Equal → P ys) → (r ≡ Greater → P zs) → P (match_ordering r xs ys zs)
    by_rank P Less xs ys zs a b c = a refl
    by_rank P Equal xs ys zs a b c = b refl
    by_rank P Greater xs ys zs a b c = c refl

    all_chain : (x : K) (ys : List K) → R k x ≡ Less → AllByRecursion (λ y. R x y ≡ Less) ys → AllByRecursion (λ y. R k y ≡ Less) ys
    all_chain x [] l a = tt
    all_chain x (y ∷ ys) l a = (o.trans k x y l a.0, all_chain x ys l a.1)

    pub all_insert : (P : K → Type 0) (ks : List K) → AllByRecursion P ks → P k → AllByRecursion P (insert_key R ks k)
    all_insert P [] a p = (p, tt)
    all_insert P (x ∷ ks) a p = by_rank (AllByRecursion P) (R k x) _ _ _ (λ _. (p, a)) (λ _. a) (λ _. (a.0, all_insert P ks a.1 p))

    -- an insert keeps the order
    pub sorted_insert : (ks : List K) → IsStrictlySortedBy R ks → IsStrictlySortedBy R (insert_key R ks k)
    unfolding IsStrictlySortedBy
    sorted_insert [] s = (tt, tt)
    sorted_insert (x ∷ ks) s = by_rank (IsStrictlySortedBy R) (R k x) _ _ _
        (λ l. ((l, all_chain x ks l s.0), s))
        (λ _. s)
        (λ g. (all_insert (λ y. R x y ≡ Less) ks s.0 (turned_Greater k x g), sorted_insert ks s.1))

pub sorted_none : {K : Type 0} (R : K → K → Ordering) → IsStrictlySortedBy R []
unfolding IsStrictlySortedBy
sorted_none R = tt
