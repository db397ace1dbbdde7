-- Where an entry belongs in a list that ascends.
use Rattle.std.proofs.Common.{◌≡◌, ℕ, suc, zero, ◌-◌, ◌<◌, ◌≤◌, true, false, List, [], ◌∷◌, ◌++◌, length, get_or, take, drop, cond, refl, sym, ap, ◌∙◌, subst, arith}
use Rattle.std.specs.Prelude.{insert}
use Rattle.std.specs.Cmp.{IsTotalOrder}
use Rattle.std.specs.declared.cmp.Ordering.{Ordering}
use Rattle.std.specs.declared.cmp.Ordering.TheVariants.{Less, Equal, Greater}
use Rattle.std.proofs.lemmas.Cmp.{nat_cmp_total, on_total, then_total}
use Rattle.site_vector.specs.Order.{tx_cmp_total}
use Rattle.crdt_core.specs.Orders.{Precede, Ascends, is_less, insert_by}
use Rattle.prepared_table.specs.declared.entry.Entry.{Entry}
use Rattle.prepared_table.specs.Entries.{entry_cmp}

-- ---- the orders

not_less : (r : Ordering) → (r ≡ Less → ⊥) → is_less r ≡ false
not_less Less h = absurd (h refl)
not_less Equal h = refl
not_less Greater h = refl

pub entry_total : {E : Type 0} → IsTotalOrder (entry_cmp {E = E})
entry_total {E} = then_total (on_total (λ (x : Entry E). x.time) nat_cmp_total) (on_total (λ (x : Entry E). x.tx) tx_cmp_total)

module _ {A : Type 0} where
  -- in front of all that it comes before
  pub first_place : (cmp : A → A → Ordering) (x : A) (xs : List A) → Precede cmp x xs → insert_by cmp x xs ≡ x ∷ xs
  first_place cmp x [] h = refl
  first_place cmp x (y ∷ xs) h = ap (λ r. cond (is_less r) (x ∷ y ∷ xs) (y ∷ insert_by cmp x xs)) h.0

  -- what isn't before a later one isn't before the ones in front
  precede_at : (cmp : A → A → Ordering) (x : A) (xs : List A) (i : ℕ) (d : A) → Precede cmp x xs → i < length xs → cmp x (get_or xs i d) ≡ Less
  precede_at cmp x [] i d h l = absurd (omega arith)
  precede_at cmp x (y ∷ xs) zero d h l = h.0
  precede_at cmp x (y ∷ xs) (suc i) d h l = precede_at cmp x xs i d h.1 (omega arith)

  pub later_place : (cmp : A → A → Ordering) → IsTotalOrder cmp → (x : A) (xs : List A) (i : ℕ) (d : A) → Ascends cmp xs → i < length xs → is_less (cmp x (get_or xs i d)) ≡ false → Precede cmp x (drop (suc i) xs) → insert_by cmp x xs ≡ take (suc i) xs ++ x ∷ drop (suc i) xs
  later_place cmp t x [] i d a l n p = absurd (omega arith)
  later_place cmp t x (y ∷ xs) zero d a l n p = ap (λ b. cond b (x ∷ y ∷ xs) (y ∷ insert_by cmp x xs)) n ∙ ap (λ zs. y ∷ zs) (first_place cmp x xs p)
  later_place cmp t x (y ∷ xs) (suc i) d a l n p =
      let behind : is_less (cmp x y) ≡ false = not_less (cmp x y) (λ e. let less : ⊥ = clash (cmp x (get_or xs i d)) n (t.trans x y (get_or xs i d) e (precede_at cmp y xs i d a.0 (omega arith))) in less) in
      ap (λ b. cond b (x ∷ y ∷ xs) (y ∷ insert_by cmp x xs)) behind ∙ ap (λ zs. y ∷ zs) (later_place cmp t x xs i d a.1 (omega arith) n p)
    where
      clash : (r : Ordering) → is_less r ≡ false → r ≡ Less → ⊥
      clash r h e = let v : is_less r ≡ true = ap is_less e in cc

module _ {E : Type 0} where
  pub place_late : (x : Entry E) (xs : List (Entry E)) (passed : ℕ) (y : Entry E) → Ascends entry_cmp xs → passed < length xs → y ≡ get_or xs (length xs - passed - 1) y → is_less (entry_cmp x y) ≡ false → Precede entry_cmp x (drop (length xs - passed) xs) → insert xs (length xs - passed) x ≡ insert_by entry_cmp x xs
  place_late x xs passed y a l e n p =
      let i = length xs - passed - 1 in
      let at : suc i ≡ length xs - passed = omega arith in
      let P : ℕ → Type 0 = λ k. insert xs k x ≡ insert_by entry_cmp x xs in
      subst P at (sym (later_place entry_cmp entry_total x xs i y a (omega arith) (subst (λ (z : Entry E). is_less (entry_cmp x z) ≡ false) e n) (subst (λ k. Precede entry_cmp x (drop k xs)) (sym at) p)))

  pub place_first : (x : Entry E) (xs : List (Entry E)) (passed : ℕ) → length xs ≤ passed → Precede entry_cmp x (drop (length xs - passed) xs) → (x ∷ xs) ≡ insert_by entry_cmp x xs
  place_first x xs passed l p =
      let all : length xs - passed ≡ 0 = omega arith in
      sym (first_place entry_cmp x xs (subst (λ k. Precede entry_cmp x (drop k xs)) all p))
