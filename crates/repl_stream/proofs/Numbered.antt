-- Lists of messages with their numbers, with one more and with one less.
use Rattle.std.proofs.Common.{◌≡◌, ℕ, ◌+◌, ◌<◌, ◌≤◌, Bool, true, false, List, [], ◌∷◌, ◌++◌, length, cond, length-append, refl, sym, ap, ◌∙◌, arith}
use Rattle.std.specs.Prelude.{◌==◌, if◌then◌else◌, Option, None, Some}
use Rattle.std.specs.Ordering.{nat_cmp, match_ordering}
use Rattle.std.specs.declared.cmp.Ordering.TheVariants.{Greater}
use Rattle.std.specs.Cmp.{unsigned_tied}
use Rattle.std.specs.BTreeMap.{is_at, insert_entry}
use Rattle.std.specs.Map.{lookup, remove_entry}
use Rattle.std.proofs.lemmas.Bool.{eqb-true}
use Rattle.std.proofs.lemmas.Bool.Decides.{nat_tests}
use Rattle.repl_stream.specs.Numbers.{item_at, without, AreAbove, AreBelow, NumbersAscend, IsOutbox}

greater : (k n : ℕ) → n < k → nat_cmp k n ≡ Greater
greater k n l = grind (arith, nat_tests)

turned : (a b : ℕ) → (a == b) ≡ (b == a)
turned a b = grind (arith, nat_tests)

same_test : (k n : ℕ) → is_at (nat_cmp k) n ≡ (n == k)
same_test k n = unsigned_tied k n ∙ turned k n

apart : (a b : ℕ) → a < b → (b == a) ≡ false
apart a b l = grind (arith, nat_tests)

other : (a b c : ℕ) → a ≡ b → (a == c) ≡ false → (b == c) ≡ false
other a b c e h = ap (λ n. n == c) (sym e) ∙ h

module _ {A : Type 0} where
  -- ---- one more

  pub appended : (xs : List (ℕ × A)) (k : ℕ) (v : A) → AreBelow k xs → insert_entry nat_cmp xs k v ≡ xs ++ (k, v) ∷ []
  appended [] k v h = refl
  appended (x ∷ xs) k v h = ap (λ r. match_ordering r ((k, v) ∷ x ∷ xs) ((x.0, v) ∷ xs) (x ∷ insert_entry nat_cmp xs k v)) (greater k x.0 h.0) ∙ ap (λ l. x ∷ l) (appended xs k v h.1)

  pub item_append : (xs : List (ℕ × A)) (k : ℕ) (v : A) → AreBelow k xs → (j : ℕ) → item_at (xs ++ (k, v) ∷ []) j ≡ (if j == k then Some v else item_at xs j)
  item_append [] k v h j = ap (λ b. cond b (Some v) None) (turned k j)
  item_append (x ∷ xs) k v h j = by (x.0 == j) refl (item_append xs k v h.1 j)
    where
      by : (b : Bool) → (x.0 == j) ≡ b → item_at (xs ++ (k, v) ∷ []) j ≡ (if j == k then Some v else item_at xs j) → cond b (Some x.1) (item_at (xs ++ (k, v) ∷ []) j) ≡ (if j == k then Some v else cond b (Some x.1) (item_at xs j))
      by true e later =
          let same : x.0 ≡ j = eqb-true x.0 j e in
          let not : (j == k) ≡ false = turned j k ∙ (ap (λ n. k == n) (sym same) ∙ apart x.0 k h.0) in
          sym (ap (λ b. cond b (Some v) (Some x.1)) not)
      by false e later = later

  above_append : (n k : ℕ) (v : A) (xs : List (ℕ × A)) → AreAbove n xs → n < k → AreAbove n (xs ++ (k, v) ∷ [])
  above_append n k v [] h l = (l, tt)
  above_append n k v (x ∷ xs) h l = (h.0, above_append n k v xs h.1 l)

  below_more : (m n : ℕ) (xs : List (ℕ × A)) → AreBelow m xs → m ≤ n → AreBelow n xs
  below_more m n [] h l = tt
  below_more m n (x ∷ xs) h l = (omega (arith, h.0, l), below_more m n xs h.1 l)

  below_append : (n k : ℕ) (v : A) (xs : List (ℕ × A)) → AreBelow n xs → k < n → AreBelow n (xs ++ (k, v) ∷ [])
  below_append n k v [] h l = (l, tt)
  below_append n k v (x ∷ xs) h l = (h.0, below_append n k v xs h.1 l)

  ascend_append : (k : ℕ) (v : A) (xs : List (ℕ × A)) → NumbersAscend xs → AreBelow k xs → NumbersAscend (xs ++ (k, v) ∷ [])
  ascend_append k v [] h l = (tt, tt)
  ascend_append k v (x ∷ xs) h l = (above_append x.0 k v xs h.0 l.0, ascend_append k v xs h.1 l.1)

  pub outbox_more : (xs : List (ℕ × A)) (next : ℕ) (v : A) → IsOutbox xs next → length xs < 4096 → IsOutbox (xs ++ (next, v) ∷ []) (next + 1)
  outbox_more xs next v h few = record {
    first = above_append 0 next v xs h.first (omega (arith, h.some));
    given = below_append (next + 1) next v xs (below_more next (next + 1) xs h.given (omega arith)) (omega arith);
    ascend = ascend_append next v xs h.ascend h.given;
    some = omega arith;
    few = let e = length-append xs ((next, v) ∷ []) in omega (arith, e, few);
  }

  -- ---- one less

  pub removed : (xs : List (ℕ × A)) (k : ℕ) → remove_entry (is_at (nat_cmp k)) xs ≡ without xs k
  removed [] k = refl
  removed (x ∷ xs) k = ap (λ b. cond b xs (x ∷ remove_entry (is_at (nat_cmp k)) xs)) (same_test k x.0) ∙ ap (λ l. cond (x.0 == k) xs (x ∷ l)) (removed xs k)

  pub looked_up : (xs : List (ℕ × A)) (k : ℕ) → lookup (is_at (nat_cmp k)) xs ≡ item_at xs k
  looked_up [] k = refl
  looked_up (x ∷ xs) k = ap (λ b. cond b (Some x.1) (lookup (is_at (nat_cmp k)) xs)) (same_test k x.0) ∙ ap (λ o. cond (x.0 == k) (Some x.1) o) (looked_up xs k)

  none_above : (n : ℕ) (xs : List (ℕ × A)) → AreAbove n xs → item_at xs n ≡ None
  none_above n [] h = refl
  none_above n (x ∷ xs) h = ap (λ b. cond b (Some x.1) (item_at xs n)) (apart n x.0 h.0) ∙ none_above n xs h.1

  either : (b : Bool) (o : Option A) → o ≡ (if b then o else o)
  either true o = refl
  either false o = refl

  pub item_without : (xs : List (ℕ × A)) (k : ℕ) → NumbersAscend xs → (j : ℕ) → item_at (without xs k) j ≡ (if j == k then None else item_at xs j)
  item_without [] k h j = either (j == k) None
  item_without (x ∷ xs) k h j = here (x.0 == k) refl (item_without xs k h.1 j)
    where
      gone : (b : Bool) → (j == k) ≡ b → x.0 ≡ k → item_at xs j ≡ cond b None (cond (x.0 == j) (Some x.1) (item_at xs j))
      gone true e s = ap (item_at xs) (eqb-true j k e ∙ sym s) ∙ none_above x.0 xs h.0
      gone false e s = sym (ap (λ b. cond b (Some x.1) (item_at xs j)) (turned x.0 j ∙ (ap (λ n. j == n) s ∙ e)))

      stays : (b : Bool) → (x.0 == j) ≡ b → (x.0 == k) ≡ false → item_at (without xs k) j ≡ (if j == k then None else item_at xs j) → cond b (Some x.1) (item_at (without xs k) j) ≡ (if j == k then None else cond b (Some x.1) (item_at xs j))
      stays true e s later = sym (ap (λ b. cond b None (Some x.1)) (other x.0 j k (eqb-true x.0 j e) s))
      stays false e s later = later

      here : (b : Bool) → (x.0 == k) ≡ b → item_at (without xs k) j ≡ (if j == k then None else item_at xs j) → item_at (cond b xs (x ∷ without xs k)) j ≡ (if j == k then None else item_at (x ∷ xs) j)
      here true e later = gone (j == k) refl (eqb-true x.0 k e)
      here false e later = stays (x.0 == j) refl e later

  above_without : (n : ℕ) (xs : List (ℕ × A)) (k : ℕ) → AreAbove n xs → AreAbove n (without xs k)
  above_without n [] k h = tt
  above_without n (x ∷ xs) k h = by (x.0 == k) (above_without n xs k h.1)
    where
      by : (b : Bool) → AreAbove n (without xs k) → AreAbove n (cond b xs (x ∷ without xs k))
      by true later = h.1
      by false later = (h.0, later)

  below_without : (n : ℕ) (xs : List (ℕ × A)) (k : ℕ) → AreBelow n xs → AreBelow n (without xs k)
  below_without n [] k h = tt
  below_without n (x ∷ xs) k h = by (x.0 == k) (below_without n xs k h.1)
    where
      by : (b : Bool) → AreBelow n (without xs k) → AreBelow n (cond b xs (x ∷ without xs k))
      by true later = h.1
      by false later = (h.0, later)

  ascend_without : (xs : List (ℕ × A)) (k : ℕ) → NumbersAscend xs → NumbersAscend (without xs k)
  ascend_without [] k h = tt
  ascend_without (x ∷ xs) k h = by (x.0 == k) (ascend_without xs k h.1)
    where
      by : (b : Bool) → NumbersAscend (without xs k) → NumbersAscend (cond b xs (x ∷ without xs k))
      by true later = h.1
      by false later = (above_without x.0 xs k h.0, later)

  fewer : (xs : List (ℕ × A)) (k : ℕ) → length (without xs k) ≤ length xs
  fewer [] k = omega arith
  fewer (x ∷ xs) k = by (x.0 == k) (fewer xs k)
    where
      by : (b : Bool) → length (without xs k) ≤ length xs → length (cond b xs (x ∷ without xs k)) ≤ length (x ∷ xs)
      by true later = omega arith
      by false later = omega arith

  pub outbox_less : (xs : List (ℕ × A)) (next k : ℕ) → IsOutbox xs next → IsOutbox (without xs k) next
  outbox_less xs next k h = record {
    first = above_without 0 xs k h.first;
    given = below_without next xs k h.given;
    ascend = ascend_without xs k h.ascend;
    some = h.some;
    few = let l = fewer xs k in omega (arith, l, h.few);
  }
