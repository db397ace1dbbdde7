-- The updates of parts one by one: what one more adds, that fold order lists them part by part, and that they are apart.
use Rattle.std.proofs.Common.{◌≡◌, ◌≢◌, ℕ, zero, suc, ◌+◌, ◌<◌, ◌≤◌, Bool, true, false, ◌||◌, List, [], ◌∷◌, ◌++◌, length, take, Option, Some, refl, sym, ap, ◌∙◌, subst, arith, zero-add, append_assoc, inl, inr}
use Rattle.std.specs.List.{slice_get}
use Rattle.std.specs.declared.cmp.Ordering.TheVariants.{Less}
use Rattle.std.specs.Cmp.{nat_cmp_is}
use Rattle.std.proofs.lemmas.List.{append-nil}
use Rattle.std.proofs.Math.Seq.{take-append_seam}
use Rattle.crdt_core.specs.declared.record.Upd.{Upd}
use Rattle.crdt_core.specs.declared.record.Part.{Part}
use Rattle.effect_store.specs.Arranged.{added, arranged, Each, Rises, flat}
use Rattle.effect_store.specs.Chains.{IsApart}
use Rattle.effect_store.specs.Spots.{Spot, spots_from, spots_in, spots, spots_of, spots_to, earlier, before}
use Rattle.effect_store.specs.Links.{spot}
use Rattle.effect_store.proofs.Arranging.{each-added, get_each, get_pushed, get_push_cases}
use Rattle.effect_store.proofs.Ordering.{spots_apart, before_by_parts, before_by_places, before_order, earlier_order}
use Rattle.effect_store.proofs.Flattening.{Across, IsLift, Fresh, flat_arranged, each-append}

take_all : {X : Type 0} (xs : List X) → take (length xs) xs ≡ xs
take_all [] = refl
take_all (x ∷ xs) = ap (λ l. x ∷ l) (take_all xs)

none_left : {X : Type 0} (xs : List X) → length xs ≡ 0 → xs ≡ []
none_left [] h = refl
none_left (x ∷ xs) h = absurd (omega arith)

pub turned : (a b : Bool) → a || b ≡ true → b || a ≡ true
turned a b h = grind arith

either_way : (a b c d : Bool) → (a ≡ true → c ≡ true) → (b ≡ true → d ≡ true) → a || b ≡ true → c || d ≡ true
either_way true b c d f g h = let e : c ≡ true = f refl in grind arith
either_way false true c d f g h = let e : d ≡ true = g refl in grind arith
either_way false false c d f g h = cc

-- of any two of a list one comes before the other
abbrev pub Crossed : {X : Type 0} → (X → X → Bool) → List X → List X → Type 0
Crossed lt acc [] = Unit {0}
Crossed lt acc (x ∷ xs) = Each (λ q. lt x q || lt q x) acc × Crossed lt acc xs

abbrev pub Paired : {X : Type 0} → (X → X → Bool) → List X → Type 0
Paired lt [] = Unit {0}
Paired lt (x ∷ xs) = Each (λ y. lt x y || lt y x) xs × Paired lt xs

each_at : {X : Type 0} (t : X → Bool) (xs : List X) → ((k : ℕ) (p : X) → slice_get xs k ≡ Some p → t p ≡ true) → Each t xs
each_at t [] h = tt
each_at t (x ∷ xs) h = (h zero x refl, each_at t xs (λ k p e. h (suc k) p e))

suc_apart : (k : ℕ) → suc k ≢ 0
suc_apart k h = omega arith

suc_same : (k j : ℕ) → k ≢ j → suc k ≢ suc j
suc_same k j n h = n (omega arith)

pub paired_of : {X : Type 0} (lt : X → X → Bool) (xs : List X) → IsApart lt xs → Paired lt xs
paired_of lt [] h = tt
paired_of lt (x ∷ xs) h = (
  each_at (λ y. lt x y || lt y x) xs (λ k p e. h zero (suc k) x p refl e (λ z. suc_apart k (sym z))),
  paired_of lt xs (λ k j p q e f n. h (suc k) (suc j) p q e f (suc_same k j n)),
)

pub crossed_none : {X : Type 0} (lt : X → X → Bool) (xs : List X) → Crossed lt [] xs
crossed_none lt [] = tt
crossed_none lt (x ∷ xs) = (tt, crossed_none lt xs)

crossed_added : {X : Type 0} (lt : X → X → Bool) (x : X) (acc xs : List X) → Crossed lt acc xs → Each (λ y. lt x y || lt y x) xs → Crossed lt (added lt x acc) xs
crossed_added lt x acc [] c e = tt
crossed_added lt x acc (y ∷ ys) c e = (each-added lt (λ q. lt y q || lt q y) x (turned (lt x y) (lt y x) e.0) acc c.0, crossed_added lt x acc ys c.1 e.1)

pub fresh_from : {X : Type 0} (lt : X → X → Bool) (acc xs : List X) → Crossed lt acc xs → Paired lt xs → Fresh lt acc xs
fresh_from lt acc [] c p = tt
fresh_from lt acc (x ∷ xs) c p = (c.0, fresh_from lt (added lt x acc) xs (crossed_added lt x acc xs c.1 p.0) p.1)

-- one more element that is apart from all
pub apart_push : {X : Type 0} (lt : X → X → Bool) (xs : List X) (x : X) → IsApart lt xs → Each (λ q. lt x q || lt q x) xs → IsApart lt (xs ++ x ∷ [])
apart_push lt xs x a f k j p q e g n = elim (get_push_cases xs x k p e) [
  | inl d ↦ elim (get_push_cases xs x j q g) [
    | inl h ↦ a k j p q d h n
    | inr h ↦ rw h.1 (turned (lt x p) (lt p x) (get_each (λ z. lt x z || lt z x) xs k p f d))
  ]
  | inr d ↦ elim (get_push_cases xs x j q g) [
    | inl h ↦ rw d.1 (get_each (λ z. lt x z || lt z x) xs j q f h)
    | inr h ↦ absurd (n (d.0 ∙ sym h.0))
  ]
]

each_flat : {X Y : Type 0} (f : X → List Y) (t : Y → Bool) (xs : List X) → ((k : ℕ) (p : X) → slice_get xs k ≡ Some p → Each t (f p)) → Each t (flat f xs)
each_flat f t [] h = tt
each_flat f t (x ∷ xs) h = each-append t (f x) (flat f xs) (h zero x refl) (each_flat f t xs (λ k p e. h (suc k) p e))

-- what stands in a front stands in the list, before its end
get_take : {X : Type 0} (n : ℕ) (xs : List X) (k : ℕ) (p : X) → slice_get (take n xs) k ≡ Some p → (slice_get xs k ≡ Some p) × (k < n)
get_take zero xs k p h = cc
get_take (suc n) [] k p h = cc
get_take (suc n) (x ∷ xs) zero p h = (h, omega arith)
get_take (suc n) (x ∷ xs) (suc k) p h = let r = get_take n xs k p h in (r.0, omega (arith, r.1))

module _ {E : Type 0} where
  each_from : (t : Spot E → Bool) (p : Part E) (m : ℕ) (us : List (Upd E)) → ((j : ℕ) (u : Upd E) → m ≤ j → t (spot p j u) ≡ true) → Each t (spots_from p m us)
  each_from t p m [] h = tt
  each_from t p m (u ∷ us) h = (h m u (omega arith), each_from t p (suc m) us (λ j v b. h j v (omega arith)))

  each_front : (t : Spot E → Bool) (p : Part E) (m n : ℕ) (us : List (Upd E)) → ((j : ℕ) (u : Upd E) → j < m + n → t (spot p j u) ≡ true) → Each t (spots_from p m (take n us))
  each_front t p m zero us h = tt
  each_front t p m (suc n) [] h = tt
  each_front t p m (suc n) (u ∷ us) h = (h m u (omega arith), each_front t p (suc m) n us (λ j v b. h j v (omega arith)))

  -- the first updates of a part, and one more
  pub spots_step : (p : Part E) (m : ℕ) (us : List (Upd E)) (n : ℕ) (u : Upd E) → slice_get us n ≡ Some u → spots_from p m (take (suc n) us) ≡ spots_from p m (take n us) ++ spot p (m + n) u ∷ []
  spots_step p m [] n u h = cc
  spots_step p m (v ∷ us) zero u h = let e : v ≡ u = cc in let z : m + 0 ≡ m = omega arith in rw (e, z) refl
  spots_step p m (v ∷ us) (suc n) u h = let z : m + suc n ≡ suc m + n = omega arith in rw z (ap (λ l. spot p m v ∷ l) (spots_step p (suc m) us n u h))

  pub spots_to-more : (parts : List (Part E)) (place n : ℕ) (p : Part E) (u : Upd E) → slice_get parts place ≡ Some p → slice_get p.updates n ≡ Some u → spots_to parts place (n + 1) ≡ spots_to parts place n ++ spot p n u ∷ []
  spots_to-more parts place n p u e h =
      let z : n + 1 ≡ suc n = omega arith in
      rw (e, z, spots_step p 0 p.updates n u h, zero-add n) (sym (append_assoc (spots (take place parts)) (spots_from p 0 (take n p.updates)) (spot p n u ∷ [])))

  -- before the updates of the last part come those of all others
  pub spots_to-none : (parts : List (Part E)) (p : Part E) → spots_to (parts ++ p ∷ []) (length parts) 0 ≡ spots parts
  spots_to-none parts p = rw (get_pushed parts p, take-append_seam parts (p ∷ [])) (append-nil (spots parts))

  pub spots_to-all : (parts : List (Part E)) (place : ℕ) (p : Part E) → slice_get parts place ≡ Some p → length parts ≡ suc place → spots_to parts place (length p.updates) ≡ spots parts
  spots_to-all [] place p e h = cc
  spots_to-all (q ∷ qs) zero p e h =
      let same : q ≡ p = cc in
      let nil : qs ≡ [] = none_left qs (omega arith) in
      rw (nil, same, take_all p.updates) (sym (append-nil (spots_in p)))
  spots_to-all (q ∷ qs) (suc place) p e h = append_assoc (spots_in q) (spots (take place qs)) (spots_of (slice_get qs place) (length p.updates)) ∙ ap (λ l. spots_in q ++ l) (spots_to-all qs place p e (omega arith))

  -- the next update of a part stands before or after each of those before it
  pub spots_to-fresh : (parts : List (Part E)) (place n : ℕ) (p : Part E) (u : Upd E) → IsApart earlier parts → slice_get parts place ≡ Some p → Each (λ q. before (spot p n u) q || before q (spot p n u)) (spots_to parts place n)
  spots_to-fresh parts place n p u a e =
      let x : Spot E = spot p n u in
      let t : Spot E → Bool = λ q. before x q || before q x in
      let others : Each t (spots (take place parts)) = each_flat spots_in t (take place parts) (λ k q f.
      (let r = get_take place parts k q f in
      let side : earlier p q || earlier q p ≡ true = a place k p q e r.0 (λ z. (let v : k < place = r.1 in let w : ⊥ = omega arith in w)) in
      each_from t q 0 q.updates (λ j v b. either_way (earlier p q) (earlier q p) (before x (spot q j v)) (before (spot q j v) x) (before_by_parts x (spot q j v)) (before_by_parts (spot q j v) x) side))) in
      let own : Each t (spots_from p 0 (take n p.updates)) = each_front t p 0 n p.updates (λ j v b. spots_apart x (spot p j v) (λ z. (let w : ⊥ = omega arith in w))) in
      let P : Option (Part E) → Type 0 = λ o. Each t (spots_of o n) in
      each-append t (spots (take place parts)) (spots_of (slice_get parts place) n) others (subst P (sym e) own)

  inside_from : (p : Part E) (m : ℕ) (us : List (Upd E)) → Rises before (spots_from p m us)
  inside_from p m [] = tt
  inside_from p m (u ∷ us) = (each_from (before (spot p m u)) p (suc m) us (λ j v b. before_by_places (spot p m u) (spot p j v) refl (sym (nat_cmp_is m j Less (omega arith)))), inside_from p (suc m) us)

  across_from : (p q : Part E) (m : ℕ) (us : List (Upd E)) → earlier p q ≡ true → Across before (spots_from p m us) (spots_in q)
  across_from p q m [] h = tt
  across_from p q m (u ∷ us) h = (each_from (before (spot p m u)) q 0 q.updates (λ j v b. before_by_parts (spot p m u) (spot q j v) h), across_from p q (suc m) us h)

  lift : IsLift earlier before (spots_in {E = E})
  lift = record { inside = λ p. inside_from p 0 p.updates; across = λ p q h. across_from p q 0 p.updates h }

  -- the updates in fold order are those of the parts in fold order
  pub spots-arranged : (parts : List (Part E)) → IsApart earlier parts → arranged before (spots parts) ≡ spots (arranged earlier parts)
  spots-arranged parts a = flat_arranged earlier before spots_in earlier_order before_order lift parts (fresh_from earlier [] parts (crossed_none earlier parts) (paired_of earlier parts a))
