-- Fronts of one trace, and what stands behind them.
use Rattle.std.proofs.Common.{◌≡◌, ◌≢◌, ⊎_elim, ℕ, ◌+◌, ◌<◌, ◌≤◌, List, [], ◌∷◌, ◌++◌, length, length-append, false, refl, sym, ap, ◌∙◌, subst, arith, append_assoc, append-nil}
use Rattle.std.specs.Prelude.{◌||◌}
use Rattle.std.proofs.lemmas.Bool.{cases_eq}
use Rattle.seat_rule.specs.declared.view.Noted.{Noted}
use Rattle.seat_rule.specs.declared.view.Past.{Past}
use Rattle.seat_rule.specs.Lists.{has, at, grown, longer}
use Rattle.seat_rule.specs.Views.{settled}
use Rattle.seat_rule.specs.Notes.{IsPrefix, NoneBears, AllBelow, Knows, Within, IsClosed, IsStamped, IsPut}
use Rattle.seat_rule.proofs.Lists.{has_append, grown_here, grown_else, heads, tails, whole_left, whole_right}

module _ {T : Type 0} where
  pub bears_front : (n : List ℕ) (xs ys : List (Noted T)) → NoneBears n (xs ++ ys) → NoneBears n xs
  bears_front n [] ys b = tt
  bears_front n (x ∷ xs) ys b = (b.0, bears_front n xs ys b.1)

  pub bears_back : (n : List ℕ) (xs ys : List (Noted T)) → NoneBears n (xs ++ ys) → NoneBears n ys
  bears_back n [] ys b = b
  bears_back n (x ∷ xs) ys b = bears_back n xs ys b.1

  pub bears_one : (n : List ℕ) (xs : List (Noted T)) (e : Noted T) → NoneBears n xs → has n e.by ≡ false → NoneBears n (xs ++ e ∷ [])
  bears_one n [] e b h = (h, tt)
  bears_one n (x ∷ xs) e b h = (b.0, bears_one n xs e b.1 h)

  pub bears_both : (n m : List ℕ) (xs : List (Noted T)) → NoneBears n xs → NoneBears m xs → NoneBears (n ++ m) xs
  bears_both n m [] a b = tt
  bears_both n m (x ∷ xs) a b = (has_append n m x.by ∙ (λ i. a.0 i || b.0 i), bears_both n m xs a.1 b.1)

  pub bears_none : (xs : List (Noted T)) → NoneBears [] xs
  bears_none [] = tt
  bears_none (x ∷ xs) = (refl, bears_none xs)

  pub knows_all : (n : List ℕ) (xs : List (Noted T)) → Knows n xs xs
  knows_all n xs = ([], append-nil xs, tt)

  -- what both know of one list, the longer front of it knows
  both_rest : (n m : List ℕ) (xs ys r s : List (Noted T)) → xs ++ r ≡ ys ++ s → NoneBears n r → NoneBears m s → Knows (n ++ m) (longer xs ys) (xs ++ r)
  both_rest n m [] ys r s e a b = (s, sym e, bears_both n m s (bears_back n ys s (subst (NoneBears n) e a)) b)
  both_rest n m (x ∷ xs) [] r s e a b = (r, refl, bears_both n m r a (bears_back m (x ∷ xs) r (subst (NoneBears m) (sym e) b)))
  both_rest n m (x ∷ xs) (y ∷ ys) r s e a b = let k = both_rest n m xs ys r s (tails x y (xs ++ r) (ys ++ s) e) a b in (k.0, ap (λ l. x ∷ l) k.1, k.2)

  pub knows_both : (n m : List ℕ) (xs ys l : List (Noted T)) → Knows n xs l → Knows m ys l → Knows (n ++ m) (longer xs ys) l
  knows_both n m xs ys l a b = subst (λ z. Knows (n ++ m) (longer xs ys) z) a.1 (both_rest n m xs ys a.0 b.0 (a.1 ∙ sym b.1) a.2 b.2)

  was_rest : (n : List ℕ) (xs ys r s : List (Noted T)) → xs ++ r ≡ ys ++ s → NoneBears n r → Knows n xs (longer xs ys)
  was_rest n [] ys r s e a = (ys, refl, bears_front n ys s (subst (NoneBears n) e a))
  was_rest n (x ∷ xs) [] r s e a = ([], append-nil (x ∷ xs), tt)
  was_rest n (x ∷ xs) (y ∷ ys) r s e a = let k = was_rest n xs ys r s (tails x y (xs ++ r) (ys ++ s) e) a in (k.0, ap (λ l. x ∷ l) k.1, k.2)

  met_rest : (m : List ℕ) (xs ys r s : List (Noted T)) → xs ++ r ≡ ys ++ s → NoneBears m s → Knows m ys (longer xs ys)
  met_rest m [] ys r s e b = knows_all m ys
  met_rest m (x ∷ xs) [] r s e b = (x ∷ xs, refl, bears_front m (x ∷ xs) r (subst (NoneBears m) (sym e) b))
  met_rest m (x ∷ xs) (y ∷ ys) r s e b = let k = met_rest m xs ys r s (tails x y (xs ++ r) (ys ++ s) e) b in (k.0, (λ i. sym (heads x y (xs ++ r) (ys ++ s) e) i ∷ k.1 i), k.2)

  -- what both knew stands within the longer
  pub was_within : (n : List ℕ) (xs ys l : List (Noted T)) (m : List ℕ) → Knows n xs l → Knows m ys l → Knows n xs (longer xs ys)
  was_within n xs ys l m a b = was_rest n xs ys a.0 b.0 (a.1 ∙ sym b.1) a.2

  pub met_within : (n : List ℕ) (xs ys l : List (Noted T)) (m : List ℕ) → Knows n xs l → Knows m ys l → Knows m ys (longer xs ys)
  met_within n xs ys l m a b = met_rest m xs ys a.0 b.0 (a.1 ∙ sym b.1) b.2

  -- who knows the whole of a list
  pub left_whole : (m : List ℕ) (xs ys l : List (Noted T)) → xs ≡ l → Knows m ys l → longer xs ys ≡ xs
  left_whole m xs ys l e b = whole_left xs ys b.0 (e ∙ sym b.1)

  pub right_whole : (n : List ℕ) (xs ys l : List (Noted T)) → Knows n xs l → ys ≡ l → longer xs ys ≡ ys
  right_whole n xs ys l a e = whole_right xs ys a.0 (e ∙ sym a.1)

  pub prefix_more : (xs ys zs : List (Noted T)) → IsPrefix xs ys → IsPrefix ys zs → IsPrefix xs zs
  prefix_more xs ys zs a b = (a.0 ++ b.0, sym (append_assoc xs a.0 b.0) ∙ (ap (λ l. l ++ b.0) a.1 ∙ b.1))

  pub prefix_length : (xs ys : List (Noted T)) → IsPrefix xs ys → length xs ≤ length ys
  prefix_length xs ys a = omega (arith, length-append xs a.0, ap length a.1)

  pub below_back : (c : ℕ) (xs ys : List (Noted T)) → AllBelow c (xs ++ ys) → AllBelow c ys
  below_back c [] ys b = b
  below_back c (x ∷ xs) ys b = below_back c xs ys b.1

  pub below_front : (c : ℕ) (xs ys : List (Noted T)) → AllBelow c (xs ++ ys) → AllBelow c xs
  below_front c [] ys b = tt
  below_front c (x ∷ xs) ys b = (b.0, below_front c xs ys b.1)

  pub below_one : (c : ℕ) (xs : List (Noted T)) (e : Noted T) → AllBelow c xs → e.by < c → AllBelow c (xs ++ e ∷ [])
  below_one c [] e b h = (h, tt)
  below_one c (x ∷ xs) e b h = (b.0, below_one c xs e b.1 h)

  pub below_more : (c : ℕ) (xs : List (Noted T)) → AllBelow c xs → AllBelow (c + 1) xs
  below_more c [] b = tt
  below_more c (x ∷ xs) b = ((let h = b.0 in omega arith), below_more c xs b.1)

  pub within_same : (p : Past T) → Within p p.lists
  within_same p = record { knows = λ q. knows_all p.numbers (at p.lists q); whole = λ q h. refl }

  pub grown_front : (ls : List (List (Noted T))) (p q : ℕ) (e : Noted T) → IsPrefix (at ls q) (at (grown ls p e) q)
  grown_front ls p q e = ⊎_elim
      (λ (h : q ≡ p). subst (λ k. IsPrefix (at ls k) (at (grown ls p e) k)) (sym h) (e ∷ [], sym (grown_here ls p e)))
      (λ (h : q ≢ p). ([], append-nil (at ls q) ∙ sym (grown_else ls p q e h)))
      (cases_eq q p)

  pub put_same : (p : Past T) (drawn : ℕ) → IsClosed p.lists → IsStamped p.lists → IsPut (settled p drawn)
  put_same p drawn c s = record { closed = c; stamped = s; was = within_same p; was_closed = c; met = within_same p; met_closed = c }
