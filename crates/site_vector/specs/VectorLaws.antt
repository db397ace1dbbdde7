-- Vectors of one width are a lattice, and their order of sums and entries extends it.
use Rattle.std.specs.Prelude.{◌≡◌, ℕ, zero, suc, ◌+◌, ◌-◌, ◌<◌, ◌≤◌, Bool, true, false, ◌&&◌, nat_le, max, min, List, [], ◌∷◌, length, replicate, slice_index, slice_set, refl}
use Rattle.std.proofs.Common.{sym, ap, ◌∙◌, arith}
use Rattle.std.proofs.lemmas.Bool.Decides.{nat_tests}
use Rattle.std.proofs.lemmas.List.Sums.{sum_by-cons}
use Rattle.std.specs.declared.cmp.Ordering.{Ordering}
use Rattle.std.specs.declared.cmp.Ordering.TheVariants.{Less, Equal, Greater}
use Rattle.std.specs.Ordering.{nat_cmp, ordering_then}
use Rattle.std.specs.Cmp.{IsTotalOrder}
use Rattle.std.specs.Cmp.Lexicographic.{slice_cmp}
use Rattle.std.proofs.lemmas.Cmp.{nat_cmp_total, nat_list_cmp_total, on_total, then_total}
use Rattle.std.proofs.lemmas.Map.Lookups.{CmpEqualImpliesEq, exact_bytes}
use Rattle.site_vector.specs.Vector.{le, join, meet, sum, order, entry, replaced}

both_true : (a b : Bool) → (a && b) ≡ true → (a ≡ true) × (b ≡ true)
both_true true b h = (refl, h)
both_true false b h = absurd cc

and_true : (a b : Bool) → a ≡ true → b ≡ true → (a && b) ≡ true
and_true a b p q = ap (λ x. x && b) p ∙ q

at_most : (n m : ℕ) → nat_le n m ≡ true → n ≤ m
at_most n m h = grind (arith, nat_tests)

is_at_most : (n m : ℕ) → n ≤ m → nat_le n m ≡ true
is_at_most n m h = grind (arith, nat_tests)

-- the first entries, and the others
pub le_parts : (n m : ℕ) (u v : List ℕ) → le (n ∷ u) (m ∷ v) ≡ true → (n ≤ m) × (le u v ≡ true)
le_parts n m u v h = let p = both_true (nat_le n m) (le u v) h in (at_most n m p.0, p.1)

pub le_cons : (n m : ℕ) (u v : List ℕ) → n ≤ m → le u v ≡ true → le (n ∷ u) (m ∷ v) ≡ true
le_cons n m u v a b = and_true (nat_le n m) (le u v) (is_at_most n m a) b

pub le_refl : (u : List ℕ) → le u u ≡ true
le_refl [] = refl
le_refl (n ∷ u) = le_cons n n u u (omega arith) (le_refl u)

pub le_trans : (u v w : List ℕ) → le u v ≡ true → le v w ≡ true → le u w ≡ true
le_trans [] v w a b = refl
le_trans (n ∷ u) [] w a b = absurd cc
le_trans (n ∷ u) (m ∷ v) [] a b = absurd cc
le_trans (n ∷ u) (m ∷ v) (k ∷ w) a b =
    let p = le_parts n m u v a in
    let q = le_parts m k v w b in
    le_cons n k u w (omega (arith, p.0, q.0)) (le_trans u v w p.1 q.1)

pub le_antisym : (u v : List ℕ) → length u ≡ length v → le u v ≡ true → le v u ≡ true → u ≡ v
le_antisym [] [] e a b = refl
le_antisym [] (m ∷ v) e a b = absurd cc
le_antisym (n ∷ u) [] e a b = absurd cc
le_antisym (n ∷ u) (m ∷ v) e a b =
    let p = le_parts n m u v a in
    let q = le_parts m n v u b in
    let same : n ≡ m = omega (arith, p.0, q.0) in
    λ i. same i ∷ le_antisym u v (omega arith) p.1 q.1 i

-- by each entry
pub le_entry : (u v : List ℕ) (site : ℕ) → le u v ≡ true → entry u site ≤ entry v site
le_entry u v site h = at (site - 1) u v h
  where
    at : (i : ℕ) (u v : List ℕ) → le u v ≡ true → slice_index u i ≤ slice_index v i
    at i [] v h = omega arith
    at i (n ∷ u) [] h = absurd cc
    at zero (n ∷ u) (m ∷ v) h = (le_parts n m u v h).0
    at (suc i) (n ∷ u) (m ∷ v) h = at i u v (le_parts n m u v h).1

-- ---- the least upper bound and the greatest lower bound

pub length_join : (u v : List ℕ) → length u ≡ length v → length (join u v) ≡ length u
length_join [] v e = refl
length_join (n ∷ u) [] e = absurd (omega arith)
length_join (n ∷ u) (m ∷ v) e = ap suc (length_join u v (omega arith))

pub length_meet : (u v : List ℕ) → length u ≡ length v → length (meet u v) ≡ length u
length_meet [] v e = refl
length_meet (n ∷ u) [] e = absurd (omega arith)
length_meet (n ∷ u) (m ∷ v) e = ap suc (length_meet u v (omega arith))

pub join_comm : (u v : List ℕ) → length u ≡ length v → join u v ≡ join v u
join_comm [] [] e = refl
join_comm [] (m ∷ v) e = absurd (omega arith)
join_comm (n ∷ u) [] e = absurd (omega arith)
join_comm (n ∷ u) (m ∷ v) e = let same : max n m ≡ max m n = omega arith in λ i. same i ∷ join_comm u v (omega arith) i

pub meet_comm : (u v : List ℕ) → length u ≡ length v → meet u v ≡ meet v u
meet_comm [] [] e = refl
meet_comm [] (m ∷ v) e = absurd (omega arith)
meet_comm (n ∷ u) [] e = absurd (omega arith)
meet_comm (n ∷ u) (m ∷ v) e = let same : min n m ≡ min m n = omega arith in λ i. same i ∷ meet_comm u v (omega arith) i

pub le_join : (u v : List ℕ) → length u ≡ length v → le u (join u v) ≡ true
le_join [] v e = refl
le_join (n ∷ u) [] e = absurd (omega arith)
le_join (n ∷ u) (m ∷ v) e = le_cons n (max n m) u (join u v) (omega arith) (le_join u v (omega arith))

pub le_join_right : (u v : List ℕ) → length u ≡ length v → le v (join u v) ≡ true
le_join_right u v e = ap (le v) (join_comm u v e) ∙ le_join v u (sym e)

pub join_le : (u v w : List ℕ) → le u w ≡ true → le v w ≡ true → le (join u v) w ≡ true
join_le [] v w a b = refl
join_le (n ∷ u) [] w a b = refl
join_le (n ∷ u) (m ∷ v) [] a b = absurd cc
join_le (n ∷ u) (m ∷ v) (k ∷ w) a b =
    let p = le_parts n k u w a in
    let q = le_parts m k v w b in
    le_cons (max n m) k (join u v) w (omega (arith, p.0, q.0)) (join_le u v w p.1 q.1)

pub meet_le : (u v : List ℕ) → le (meet u v) u ≡ true
meet_le [] v = refl
meet_le (n ∷ u) [] = refl
meet_le (n ∷ u) (m ∷ v) = le_cons (min n m) n (meet u v) u (omega arith) (meet_le u v)

pub meet_le_right : (u v : List ℕ) → length u ≡ length v → le (meet u v) v ≡ true
meet_le_right u v e = ap (λ x. le x v) (meet_comm u v e) ∙ meet_le v u

pub le_meet : (u v w : List ℕ) → length u ≡ length v → le w u ≡ true → le w v ≡ true → le w (meet u v) ≡ true
le_meet u v [] e a b = refl
le_meet [] v (k ∷ w) e a b = absurd cc
le_meet (n ∷ u) [] (k ∷ w) e a b = absurd cc
le_meet (n ∷ u) (m ∷ v) (k ∷ w) e a b =
    let p = le_parts k n w u a in
    let q = le_parts k m w v b in
    le_cons k (min n m) w (meet u v) (omega (arith, p.0, q.0)) (le_meet u v w (omega arith) p.1 q.1)

-- the vector of zeros is the least
pub zeros_le : (n : ℕ) (u : List ℕ) → length u ≡ n → le (replicate n 0) u ≡ true
zeros_le zero u e = refl
zeros_le (suc n) [] e = absurd (omega arith)
zeros_le (suc n) (m ∷ u) e = le_cons 0 m (replicate n 0) u (omega arith) (zeros_le n u (omega arith))

-- ---- one entry in place of another

set_length : (i : ℕ) (v : List ℕ) (n : ℕ) → length (slice_set v i n) ≡ length v
set_length i [] n = refl
set_length zero (m ∷ v) n = refl
set_length (suc i) (m ∷ v) n = ap suc (set_length i v n)

set_le : (i : ℕ) (u v : List ℕ) (n : ℕ) → le u v ≡ true → slice_index u i ≤ n → le u (slice_set v i n) ≡ true
set_le i [] v n h g = refl
set_le i (k ∷ u) [] n h g = absurd cc
set_le zero (k ∷ u) (m ∷ v) n h g = le_cons k n u v g (le_parts k m u v h).1
set_le (suc i) (k ∷ u) (m ∷ v) n h g = let p = le_parts k m u v h in le_cons k m u (slice_set v i n) p.0 (set_le i u v n p.1 g)

le_set : (i : ℕ) (u v : List ℕ) (n : ℕ) → le u v ≡ true → n ≤ slice_index v i → le (slice_set u i n) v ≡ true
le_set i [] v n h g = refl
le_set i (k ∷ u) [] n h g = absurd cc
le_set zero (k ∷ u) (m ∷ v) n h g = le_cons n m u v g (le_parts k m u v h).1
le_set (suc i) (k ∷ u) (m ∷ v) n h g = let p = le_parts k m u v h in le_cons k m (slice_set u i n) v p.0 (le_set i u v n p.1 g)

pub length_replaced : (v : List ℕ) (site n : ℕ) → length (replaced v site n) ≡ length v
length_replaced v site n = set_length (site - 1) v n

-- a greater entry makes a greater vector, and a lesser one a lesser
pub replaced_le : (u v : List ℕ) (site n : ℕ) → le u v ≡ true → n ≤ entry v site → le (replaced u site n) v ≡ true
replaced_le u v site n h g = le_set (site - 1) u v n h g

pub le_replaced : (u v : List ℕ) (site n : ℕ) → le u v ≡ true → entry u site ≤ n → le u (replaced v site n) ≡ true
le_replaced u v site n h g = set_le (site - 1) u v n h g

-- ---- the order of sums and entries

pub sum_cons : (n : ℕ) (u : List ℕ) → sum (n ∷ u) ≡ n + sum u
sum_cons n u = sum_by-cons (λ x. x) n u

sum_le : (u v : List ℕ) → le u v ≡ true → sum u ≤ sum v
sum_le [] v h = omega arith
sum_le (n ∷ u) [] h = absurd cc
sum_le (n ∷ u) (m ∷ v) h = let p = le_parts n m u v h in omega (arith, p.0, sum_le u v p.1, sum_cons n u, sum_cons m v)

-- where the sums are equal too, so are the vectors
same_sum : (u v : List ℕ) → length u ≡ length v → le u v ≡ true → sum v ≤ sum u → u ≡ v
same_sum [] [] e h s = refl
same_sum [] (m ∷ v) e h s = absurd (omega arith)
same_sum (n ∷ u) [] e h s = absurd cc
same_sum (n ∷ u) (m ∷ v) e h s =
    let p = le_parts n m u v h in
    let below = sum_le u v p.1 in
    let same : n ≡ m = omega (arith, p.0, below, s, sum_cons n u, sum_cons m v) in
    λ i. same i ∷ same_sum u v (omega arith) p.1 (omega (arith, p.0, below, s, sum_cons n u, sum_cons m v)) i

pub order_extends_le : (u v : List ℕ) → length u ≡ length v → le u v ≡ true → (u ≡ v → ⊥) → order u v ≡ Less
order_extends_le u v e h other =
    let smaller : sum u < sum v = below (sum_le u v h) (λ s. other (same_sum u v e h s)) in
    ap (λ r. ordering_then r (slice_cmp nat_cmp u v)) (less (sum u) (sum v) smaller)
  where
    below : {a b : ℕ} → a ≤ b → (b ≤ a → ⊥) → a < b
    below {a} {b} most apart = grind arith

    less : (a b : ℕ) → a < b → nat_cmp a b ≡ Less
    less a b lt = grind (arith, nat_tests)

pub order_total : IsTotalOrder order
order_total = then_total (on_total sum nat_cmp_total) nat_list_cmp_total

-- what compares as equal is one
pub order_exact : CmpEqualImpliesEq order
order_exact u v h = at (nat_cmp (sum u) (sum v)) h
  where
    at : (r : Ordering) → ordering_then r (slice_cmp nat_cmp u v) ≡ Equal → u ≡ v
    at Less h = absurd cc
    at Equal h = exact_bytes u v h
    at Greater h = absurd cc
