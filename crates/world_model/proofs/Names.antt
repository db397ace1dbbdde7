-- Partitions and transactions as one or apart, and entries of vectors.
use Rattle.std.proofs.Common.{◌≡◌, ◌≢◌, ◌⊎◌, ⊎_elim, inl, inr, ℕ, zero, suc, ◌-◌, ◌<◌, ◌≤◌, leb, Bool, true, false, true≢false, List, [], ◌∷◌, length, refl, sym, ap, ◌∙◌, subst, arith, le_trans, le_refl}
use Rattle.std.specs.Prelude.{slice_index, slice_index_or, slice_set}
use Rattle.std.proofs.lemmas.Bool.{cases_Bool, and_from, and_parts, leb-true, le-leb, cases_eq, cases_lt, false_from_ne_true}
use Rattle.std.proofs.lemmas.List.{get_or-set_same, get_or-set_other}
use Rattle.site_vector.specs.declared.ids.PartId.{PartId}
use Rattle.site_vector.specs.Ids.{same_part}
use Rattle.site_vector.specs.Order.{same_part_is, same_part_refl}
use Rattle.site_vector.specs.Vector.{le, entry, join, replaced}
use Rattle.site_vector.specs.Known.{vector_of}
use Rattle.site_vector.specs.Known.{lowest}

pub clash : {A : Type 0} {b : Bool} → b ≡ true → b ≡ false → A
clash h k = absurd (true≢false (sym h ∙ k))

pub off : {A : Type 0} → false ≡ true → A
off e = absurd (true≢false (sym e))

pub part_cases : (p q : PartId) → (p ≡ q) ⊎ (p ≡ q → ⊥)
part_cases p q = ⊎_elim
    (λ (e : same_part p q ≡ true). inl (same_part_is p q e))
    (λ (e : same_part p q ≡ false). inr (λ k. clash (subst (λ x. same_part p x ≡ true) k (same_part_refl p)) e))
    (cases_Bool (same_part p q))

pub part_same : (p q : PartId) → p ≡ q → same_part p q ≡ true
part_same p q e = subst (λ x. same_part p x ≡ true) e (same_part_refl p)

pub part_other : (p q : PartId) → (p ≡ q → ⊥) → same_part p q ≡ false
part_other p q ne = false_from_ne_true _ (λ h. ne (same_part_is p q h))

pub le_at : (u v : List ℕ) (i : ℕ) → le u v ≡ true → slice_index u i ≤ slice_index v i
le_at [] v i h = omega arith
le_at (n ∷ u) [] i h = off h
le_at (n ∷ u) (m ∷ v) zero h = leb-true n m (and_parts (leb n m) _ h).0
le_at (n ∷ u) (m ∷ v) (suc i) h = le_at u v i (and_parts (leb n m) _ h).1

pub le_from : (u v : List ℕ) → length u ≤ length v → ((i : ℕ) → slice_index u i ≤ slice_index v i) → le u v ≡ true
le_from [] v l h = refl
le_from (n ∷ u) [] l h = absurd (omega arith)
le_from (n ∷ u) (m ∷ v) l h = and_from _ _ (le-leb n m (h zero)) (le_from u v (omega arith) (λ i. h (suc i)))

pub le_onward : (u v w : List ℕ) → le u v ≡ true → le v w ≡ true → le u w ≡ true
le_onward [] v w h k = refl
le_onward (n ∷ u) [] w h k = off h
le_onward (n ∷ u) (m ∷ v) [] h k = off k
le_onward (n ∷ u) (m ∷ v) (l ∷ w) h k =
    let a = and_parts (leb n m) (le u v) h in
    let b = and_parts (leb m l) (le v w) k in
    and_from _ _ (le-leb n l (le_trans (leb-true n m a.0) (leb-true m l b.0))) (le_onward u v w a.1 b.1)

pub le_self : (u : List ℕ) → le u u ≡ true
le_self [] = refl
le_self (n ∷ u) = and_from _ _ (le-leb n n (le_refl n)) (le_self u)

-- a vector with an entry raised is above
pub le_raised : (u : List ℕ) (i n : ℕ) → slice_index u i ≤ n → le u (slice_set u i n) ≡ true
le_raised [] i n h = refl
le_raised (m ∷ u) zero n h = and_from _ _ (le-leb m n h) (le_self u)
le_raised (m ∷ u) (suc i) n h = and_from _ _ (le-leb m m (le_refl m)) (le_raised u i n h)

pub entry_same : (v : List ℕ) (d n : ℕ) → 1 ≤ d → d ≤ length v → entry (replaced v d n) d ≡ n
entry_same v d n a b = get_or-set_same v (d - 1) n 0 (omega arith)

-- past the end nothing is set
set_past : (v : List ℕ) (i n : ℕ) → length v ≤ i → slice_set v i n ≡ v
set_past [] i n h = refl
set_past (m ∷ v) zero n h = absurd (omega arith)
set_past (m ∷ v) (suc i) n h = ap (λ l. m ∷ l) (set_past v i n (omega arith))

pub entry_cases : (v : List ℕ) (i n j : ℕ) → (entry (replaced v i n) j ≡ entry v j) ⊎ ((j - 1 ≡ i - 1) × (entry (replaced v i n) j ≡ n))
entry_cases v i n j = ⊎_elim
    (λ (e : j - 1 ≡ i - 1). ⊎_elim
    (λ (b : i - 1 < length v). inr (e, ap (λ k. slice_index (slice_set v (i - 1) n) k) e ∙ get_or-set_same v (i - 1) n 0 b))
    (λ (b : length v ≤ i - 1). inl (ap (λ l. slice_index l (j - 1)) (set_past v (i - 1) n b)))
    (cases_lt (i - 1) (length v)))
    (λ (ne : j - 1 ≡ i - 1 → ⊥). inl (get_or-set_other v (i - 1) (j - 1) n 0 ne))
    (cases_eq (j - 1) (i - 1))

pub join_below : (u v : List ℕ) (i : ℕ) → (slice_index (join u v) i ≤ slice_index u i) ⊎ (slice_index (join u v) i ≤ slice_index v i)
join_below [] v i = inl (omega arith)
join_below (n ∷ u) [] i = inl (omega arith)
join_below (n ∷ u) (m ∷ v) zero = ⊎_elim (λ (h : n < m). inr (omega arith)) (λ (h : m ≤ n). inl (omega arith)) (cases_lt n m)
join_below (n ∷ u) (m ∷ v) (suc i) = join_below u v i

-- the vector of a partition where that of q is set
pub vectors_cases : (vs : List (List ℕ)) (q k : ℕ) (v : List ℕ) → (vector_of (slice_set vs (q - 1) v) k ≡ vector_of vs k) ⊎ ((k - 1 ≡ q - 1) × (vector_of (slice_set vs (q - 1) v) k ≡ v))
vectors_cases vs q k v = ⊎_elim
    (λ (e : k - 1 ≡ q - 1). ⊎_elim
    (λ (b : q - 1 < length vs). inr (e, ap (λ i. slice_index_or (slice_set vs (q - 1) v) i []) e ∙ get_or-set_same vs (q - 1) v [] b))
    (λ (b : length vs ≤ q - 1). inl (ap (λ l. slice_index_or l (k - 1) []) (past vs (q - 1) b)))
    (cases_lt (q - 1) (length vs)))
    (λ (ne : k - 1 ≡ q - 1 → ⊥). inl (get_or-set_other vs (q - 1) (k - 1) v [] ne))
    (cases_eq (k - 1) (q - 1))
  where
    past : (ws : List (List ℕ)) (i : ℕ) → length ws ≤ i → slice_set ws i v ≡ ws
    past [] i h = refl
    past (w ∷ ws) zero h = absurd (omega arith)
    past (w ∷ ws) (suc i) h = ap (λ l. w ∷ l) (past ws i (omega arith))

-- the least is at most each
pub lowest_below : (known : ℕ → ℕ) (n q : ℕ) → 1 ≤ q → q ≤ n → lowest known n ≤ known q
lowest_below known zero q a b = absurd (omega arith)
lowest_below known (suc zero) q a b = let e : q ≡ 1 = omega arith in subst (λ x. known 1 ≤ known x) (sym e) (le_refl _)
lowest_below known (suc (suc n)) q a b = ⊎_elim
    (λ (e : q ≡ suc (suc n)). subst (λ x. lowest known (suc (suc n)) ≤ known x) (sym e) (omega arith))
    (λ (ne : q ≡ suc (suc n) → ⊥). let apart : q ≢ suc (suc n) = ne in let h = lowest_below known (suc n) q a (omega arith) in omega arith)
    (cases_eq q (suc (suc n)))

-- and that of one of them
pub lowest_reached : (known : ℕ → ℕ) (n : ℕ) → 1 ≤ n → (q : ℕ) × (1 ≤ q) × (q ≤ n) × (lowest known n ≡ known q)
lowest_reached known zero a = absurd (omega arith)
lowest_reached known (suc zero) a = (1, le_refl 1, le_refl 1, refl)
lowest_reached known (suc (suc n)) a =
    let h = lowest_reached known (suc n) (omega arith) in ⊎_elim
    (λ (k : known (suc (suc n)) < lowest known (suc n)). (suc (suc n), omega arith, le_refl _, omega arith))
    (λ (k : lowest known (suc n) ≤ known (suc (suc n))). (h.0, h.1, omega arith, (let e : lowest known (suc (suc n)) ≡ lowest known (suc n) = omega arith in e) ∙ h.3))
    (cases_lt (known (suc (suc n))) (lowest known (suc n)))
