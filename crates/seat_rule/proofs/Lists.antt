-- Lists of traces that grow, and the longer of two fronts of one list.
use Rattle.std.proofs.Common.{◌≡◌, ◌≢◌, ◌⊎◌, inl, inr, ⊎_elim, ℕ, zero, suc, ◌+◌, ◌≤◌, length-append, List, [], ◌∷◌, ◌++◌, length, Bool, true, false, true≢false, refl, sym, ap, ◌∙◌, arith}
use Rattle.std.specs.Prelude.{◌||◌, ◌==◌}
use mathlib.Core.Option.{some, some-ne-none, some-injective}
use lib.ListN.{get_elem?}
use Rattle.seat_rule.specs.Lists.{put, has, at, grown, longer, longest, behind, cite, lens, total}

or_assoc : (a b c : Bool) → ((a || b) || c) ≡ (a || (b || c))
or_assoc true b c = refl
or_assoc false b c = refl

pub has_append : (n m : List ℕ) (k : ℕ) → has (n ++ m) k ≡ (has n k || has m k)
has_append [] m k = refl
has_append (j ∷ n) m k = ap (λ b. j == k || b) (has_append n m k) ∙ sym (or_assoc (j == k) (has n k) (has m k))

module _ {X : Type 0} where
  pub put_here : (f : ℕ → X) (p : ℕ) (x : X) → put f p x p ≡ x
  put_here f zero x = refl
  put_here f (suc p) x = put_here (λ k. f (suc k)) p x

  pub put_else : (f : ℕ → X) (p q : ℕ) (x : X) → q ≢ p → put f p x q ≡ f q
  put_else f zero zero x n = absurd (n refl)
  put_else f zero (suc q) x n = refl
  put_else f (suc p) zero x n = refl
  put_else f (suc p) (suc q) x n = put_else (λ k. f (suc k)) p q x (λ h. n (ap suc h))

module _ {A : Type 0} where
  pub grown_here : (ls : List (List A)) (p : ℕ) (e : A) → at (grown ls p e) p ≡ at ls p ++ e ∷ []
  grown_here [] zero e = refl
  grown_here [] (suc p) e = grown_here [] p e
  grown_here (l ∷ ls) zero e = refl
  grown_here (l ∷ ls) (suc p) e = grown_here ls p e

  pub grown_else : (ls : List (List A)) (p q : ℕ) (e : A) → q ≢ p → at (grown ls p e) q ≡ at ls q
  grown_else [] zero zero e n = absurd (n refl)
  grown_else [] zero (suc q) e n = refl
  grown_else [] (suc p) zero e n = refl
  grown_else [] (suc p) (suc q) e n = grown_else [] p q e (λ h. n (ap suc h))
  grown_else (l ∷ ls) zero zero e n = absurd (n refl)
  grown_else (l ∷ ls) zero (suc q) e n = refl
  grown_else (l ∷ ls) (suc p) zero e n = refl
  grown_else (l ∷ ls) (suc p) (suc q) e n = grown_else ls p q e (λ h. n (ap suc h))

  longer_nil : (xs : List A) → longer xs [] ≡ xs
  longer_nil [] = refl
  longer_nil (x ∷ xs) = refl

  pub longest_at : (xs ys : List (List A)) (p : ℕ) → at (longest xs ys) p ≡ longer (at xs p) (at ys p)
  longest_at [] ys p = refl
  longest_at (x ∷ xs) [] p = sym (longer_nil (at (x ∷ xs) p))
  longest_at (x ∷ xs) (y ∷ ys) zero = refl
  longest_at (x ∷ xs) (y ∷ ys) (suc p) = longest_at xs ys p

  pub cite_lens : (ls : List (List A)) (p : ℕ) → cite (lens ls) p ≡ length (at ls p)
  cite_lens [] p = refl
  cite_lens (l ∷ ls) zero = refl
  cite_lens (l ∷ ls) (suc p) = cite_lens ls p

  -- the first of a list that has one
  abbrev head_or : A → List A → A
  head_or d [] = d
  head_or d (x ∷ xs) = x

  pub heads : (x y : A) (xs ys : List A) → x ∷ xs ≡ y ∷ ys → x ≡ y
  heads x y xs ys e = ap (head_or x) e

  pub tails : (x y : A) (xs ys : List A) → x ∷ xs ≡ y ∷ ys → xs ≡ ys
  tails x y xs ys e = ap behind e

  abbrev is_cons : List A → Bool
  is_cons [] = false
  is_cons (x ∷ xs) = true

  pub no_cons : {X : Type 0} (y : A) (ys : List A) → [] ≡ y ∷ ys → X
  no_cons y ys e = absurd (true≢false (sym (ap is_cons e)))

  pub longer_from : (xs ys : List A) (i : ℕ) (e : A) → get_elem? (longer xs ys) i ≡ some e → (get_elem? xs i ≡ some e) ⊎ (get_elem? ys i ≡ some e)
  longer_from [] ys i e h = inr h
  longer_from (x ∷ xs) [] i e h = inl h
  longer_from (x ∷ xs) (y ∷ ys) zero e h = inl h
  longer_from (x ∷ xs) (y ∷ ys) (suc i) e h = longer_from xs ys i e h

  pub whole_left : (xs ys s : List A) → xs ≡ ys ++ s → longer xs ys ≡ xs
  whole_left [] [] s e = refl
  whole_left [] (y ∷ ys) s e = no_cons y (ys ++ s) e
  whole_left (x ∷ xs) [] s e = refl
  whole_left (x ∷ xs) (y ∷ ys) s e = ap (λ l. x ∷ l) (whole_left xs ys s (tails x y xs (ys ++ s) e))

  pub whole_right : (xs ys r : List A) → ys ≡ xs ++ r → longer xs ys ≡ ys
  whole_right [] ys r e = refl
  whole_right (x ∷ xs) [] r e = no_cons x (xs ++ r) e
  whole_right (x ∷ xs) (y ∷ ys) r e = λ i. (heads x y (xs ++ r) ys (sym e) i) ∷ (whole_right xs ys r (tails y x ys (xs ++ r) e) i)

  pub at_last_is : (l : List A) (a b : A) (j : ℕ) → get_elem? (l ++ a ∷ []) j ≡ some b → (get_elem? l j ≡ some b) ⊎ ((a ≡ b) × (j ≡ length l))
  at_last_is [] a b zero e = inr (some-injective a b e, refl)
  at_last_is [] a b (suc j) e = absurd (some-ne-none b (sym e))
  at_last_is (x ∷ xs) a b zero e = inl e
  at_last_is (x ∷ xs) a b (suc j) e = ⊎_elim (λ t. inl t) (λ t. inr (t.0, ap suc t.1)) (at_last_is xs a b j e)

  pub total_grown : (ls : List (List A)) (p : ℕ) (e : A) → total (grown ls p e) ≡ total ls + 1
  total_grown [] zero e = refl
  total_grown [] (suc p) e = let n = total_grown [] p e in omega arith
  total_grown (l ∷ ls) zero e = let n = length-append l (e ∷ []) in omega arith
  total_grown (l ∷ ls) (suc p) e = let n = total_grown ls p e in omega arith

  longer_than_first : (xs ys : List A) → length xs ≤ length (longer xs ys)
  longer_than_first [] ys = omega arith
  longer_than_first (x ∷ xs) [] = omega arith
  longer_than_first (x ∷ xs) (y ∷ ys) = let n = longer_than_first xs ys in omega arith

  longer_than_second : (xs ys : List A) → length ys ≤ length (longer xs ys)
  longer_than_second [] ys = omega arith
  longer_than_second (x ∷ xs) [] = omega arith
  longer_than_second (x ∷ xs) (y ∷ ys) = let n = longer_than_second xs ys in omega arith

  pub total_first : (xs ys : List (List A)) → total xs ≤ total (longest xs ys)
  total_first [] ys = omega arith
  total_first (x ∷ xs) [] = omega arith
  total_first (x ∷ xs) (y ∷ ys) = let n = longer_than_first x y in let m = total_first xs ys in omega arith

  pub total_second : (xs ys : List (List A)) → total ys ≤ total (longest xs ys)
  total_second [] ys = omega arith
  total_second (x ∷ xs) [] = omega arith
  total_second (x ∷ xs) (y ∷ ys) = let n = longer_than_second x y in let m = total_second xs ys in omega arith
