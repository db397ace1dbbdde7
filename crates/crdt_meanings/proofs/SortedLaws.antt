-- Sorting puts the same texts into one list, and a stable sort gives it.
use Rattle.std.proofs.Common.{◌≡◌, ℕ, suc, ◌+◌, ◌<◌, ◌≤◌, Bool, true, false, cond, not, ◌&&◌, List, [], ◌∷◌, ◌++◌, length, get_or, refl, sym, ap, ◌∙◌, subst, arith}
use Rattle.std.specs.Prelude.{filter}
use Rattle.std.specs.List.Sorted.{IsSorted, IsStable, ties}
use Rattle.std.specs.declared.cmp.Ordering.{Ordering}
use Rattle.std.specs.declared.cmp.Ordering.TheVariants.{Less, Equal, Greater}
use Rattle.std.specs.Ordering.{ordering_reverse, is_lt}
use Rattle.std.specs.Cmp.{tied_itself}
use Rattle.std.proofs.lemmas.Bool.{true≢false, false≢true}
use Rattle.crdt_core.specs.Same.{Same}
use Rattle.crdt_core.proofs.Confluence.{filter_append}
use Rattle.crdt_core.specs.Texts.{text_cmp, text_cmp_total, text_cmp_exact}
use Rattle.crdt_meanings.specs.Sorted.{placed, sorted}

flipped : (x y : List ℕ) (r : Ordering) → text_cmp x y ≡ r → text_cmp y x ≡ ordering_reverse r
flipped x y r h = text_cmp_total.antisymm y x ∙ ap ordering_reverse h

is_less : (r : Ordering) → is_lt r ≡ true → r ≡ Less
is_less Less h = refl
is_less Equal h = absurd (false≢true h)
is_less Greater h = absurd (false≢true h)

-- what isn't above something is below all that is above it
below : (x y z : List ℕ) → is_lt (text_cmp z x) ≡ false → is_lt (text_cmp z y) ≡ true → is_lt (text_cmp x y) ≡ true
below x y z h k = elim (text_cmp z x) as (λ r. text_cmp z x ≡ r → is_lt r ≡ false → is_lt (text_cmp x y) ≡ true) [
  | Less ↦ λ e f. absurd (true≢false f)
  | Equal ↦ λ e f. subst (λ w. is_lt (text_cmp w y) ≡ true) (text_cmp_exact z x e) k
  | Greater ↦ λ e f. ap is_lt (text_cmp_total.trans x z y (flipped z x Greater e) (is_less (text_cmp z y) k))
] refl h

two_first : (x y : List ℕ) (rest : List (List ℕ)) → cond (is_lt (text_cmp y x)) (y ∷ x ∷ rest) (x ∷ y ∷ rest) ≡ cond (is_lt (text_cmp x y)) (x ∷ y ∷ rest) (y ∷ x ∷ rest)
two_first x y rest = elim (text_cmp x y) as (λ r. text_cmp x y ≡ r → cond (is_lt (text_cmp y x)) (y ∷ x ∷ rest) (x ∷ y ∷ rest) ≡ cond (is_lt r) (x ∷ y ∷ rest) (y ∷ x ∷ rest)) [
  | Less ↦ λ h. ap (λ r. cond (is_lt r) (y ∷ x ∷ rest) (x ∷ y ∷ rest)) (flipped x y Less h)
  | Equal ↦ λ h. let e = text_cmp_exact x y h in ap (λ r. cond (is_lt r) (y ∷ x ∷ rest) (x ∷ y ∷ rest)) (flipped x y Equal h) ∙ (λ i. e i ∷ sym e i ∷ rest)
  | Greater ↦ λ h. ap (λ r. cond (is_lt r) (y ∷ x ∷ rest) (x ∷ y ∷ rest)) (flipped x y Greater h)
] refl

placed_swap : (x y : List ℕ) (zs : List (List ℕ)) → placed x (placed y zs) ≡ placed y (placed x zs)
placed_swap x y [] = two_first x y []
placed_swap x y (z ∷ zs) =
    let rest = placed_swap x y zs in
    elim (is_lt (text_cmp z y)) as (λ b. is_lt (text_cmp z y) ≡ b → placed x (cond b (z ∷ placed y zs) (y ∷ z ∷ zs)) ≡ placed y (placed x (z ∷ zs))) [
      | true ↦ λ b. elim (is_lt (text_cmp z x)) as (λ a. is_lt (text_cmp z x) ≡ a → cond a (z ∷ placed x (placed y zs)) (x ∷ z ∷ placed y zs) ≡ placed y (cond a (z ∷ placed x zs) (x ∷ z ∷ zs))) [
        | true ↦ λ a. ap (λ l. z ∷ l) rest ∙ sym (ap (λ c. cond c (z ∷ placed y (placed x zs)) (y ∷ z ∷ placed x zs)) b)
        | false ↦ λ a. sym (ap (λ c. cond c (x ∷ placed y (z ∷ zs)) (y ∷ x ∷ z ∷ zs)) (below x y z a b) ∙ ap (λ c. x ∷ cond c (z ∷ placed y zs) (y ∷ z ∷ zs)) b)
      ] refl
      | false ↦ λ b. elim (is_lt (text_cmp z x)) as (λ a. is_lt (text_cmp z x) ≡ a → placed x (y ∷ z ∷ zs) ≡ placed y (cond a (z ∷ placed x zs) (x ∷ z ∷ zs))) [
        | true ↦ λ a. ap (λ c. cond c (y ∷ placed x (z ∷ zs)) (x ∷ y ∷ z ∷ zs)) (below y x z b a) ∙ ap (λ c. y ∷ cond c (z ∷ placed x zs) (x ∷ z ∷ zs)) a
            ∙ sym (ap (λ c. cond c (z ∷ placed y (placed x zs)) (y ∷ z ∷ placed x zs)) b)
        | false ↦ λ a. ap (λ c. cond (is_lt (text_cmp y x)) (y ∷ cond c (z ∷ placed x zs) (x ∷ z ∷ zs)) (x ∷ y ∷ z ∷ zs)) a ∙ two_first x y (z ∷ zs)
            ∙ sym (ap (λ c. cond (is_lt (text_cmp x y)) (x ∷ cond c (z ∷ placed y zs) (y ∷ z ∷ zs)) (y ∷ x ∷ z ∷ zs)) b)
      ] refl
    ] refl

sorted_at : (front back : List (List ℕ)) (x : List ℕ) → sorted (front ++ x ∷ back) ≡ placed x (sorted (front ++ back))
sorted_at [] back x = refl
sorted_at (y ∷ ys) back x = ap (placed y) (sorted_at ys back x) ∙ placed_swap y x (sorted (ys ++ back))

-- in order, the same texts are one list
pub sorted_same : (xs ys : List (List ℕ)) → Same xs ys → sorted xs ≡ sorted ys
sorted_same [] ys s = ap sorted (sym s)
sorted_same (x ∷ xs) ys s = ap (placed x) (sorted_same xs (s.0 ++ s.1) s.3) ∙ sym (ap sorted s.2 ∙ sorted_at s.0 s.1 x)

sorted_rest : (y : List ℕ) (ys : List (List ℕ)) → IsSorted text_cmp (y ∷ ys) → IsSorted text_cmp ys
sorted_rest y ys h = λ k d low high.
    let one : suc k ≡ k + 1 = omega arith in
    let two : suc k + 1 ≡ suc (suc k) = omega arith in
    let least : 0 ≤ suc k = omega arith in
    let most : suc k + 1 < length (y ∷ ys) = omega (arith, high) in
    subst (λ n. is_lt (text_cmp (get_or ys n d) (get_or ys k d)) ≡ false) one
    (subst (λ n. is_lt (text_cmp (get_or (y ∷ ys) n d) (get_or ys k d)) ≡ false) two (h (suc k) d least most))

-- a list in order stays as it is
sorted_again : (ys : List (List ℕ)) → IsSorted text_cmp ys → sorted ys ≡ ys
sorted_again [] h = refl
sorted_again (y ∷ []) h = refl
sorted_again (y ∷ z ∷ zs) h =
    ap (placed y) (sorted_again (z ∷ zs) (sorted_rest y (z ∷ zs) h))
    ∙ ap (λ b. cond b (z ∷ placed y zs) (y ∷ z ∷ zs)) (h 0 y (omega arith) (omega arith))

abbrev tied : List ℕ → List ℕ → Bool
tied x y = ties (λ a b. is_lt (text_cmp a b)) x y

tied_is : (x y : List ℕ) → tied x y ≡ true → x ≡ y
tied_is x y h = elim (text_cmp x y) as (λ r. text_cmp x y ≡ r → (not (is_lt r) && not (is_lt (text_cmp y x))) ≡ true → x ≡ y) [
  | Less ↦ λ e f. absurd (false≢true f)
  | Equal ↦ λ e f. text_cmp_exact x y e
  | Greater ↦ λ e f. absurd (false≢true (sym (ap (λ r. not (is_lt r)) (flipped x y Greater e)) ∙ f))
] refl h

tied_to_itself : (x : List ℕ) → tied x x ≡ true
tied_to_itself x = ap (λ r. not (is_lt r) && not (is_lt r)) (tied_itself text_cmp_total x)

abbrev has_some : List (List ℕ) → Bool
has_some [] = false
has_some (x ∷ xs) = true

abbrev rest_of : List (List ℕ) → List (List ℕ)
rest_of [] = []
rest_of (x ∷ xs) = xs

not_empty : {P : Type 0} (x : List ℕ) (xs : List (List ℕ)) → x ∷ xs ≡ [] → P
not_empty x xs h = absurd (true≢false (ap has_some h))

-- the first place of a text
first_tied : (x : List ℕ) (ys rest : List (List ℕ)) → filter (tied x) ys ≡ x ∷ rest → (front : List (List ℕ)) × (back : List (List ℕ)) × (ys ≡ front ++ x ∷ back) × (filter (tied x) front ≡ [])
first_tied x [] rest h = not_empty x rest (sym h)
first_tied x (y ∷ ys) rest h = elim (tied x y) as (λ b. tied x y ≡ b → cond b (y ∷ filter (tied x) ys) (filter (tied x) ys) ≡ x ∷ rest → (front : List (List ℕ)) × (back : List (List ℕ)) × (y ∷ ys ≡ front ++ x ∷ back) × (filter (tied x) front ≡ [])) [
  | true ↦ λ e k. ([], ys, ap (λ w. w ∷ ys) (sym (tied_is x y e)), refl)
  | false ↦ λ e k. let w = first_tied x ys rest k in (y ∷ w.0, w.1, ap (λ l. y ∷ l) w.2, ap (λ b. cond b (y ∷ filter (tied x) w.0) (filter (tied x) w.0)) e ∙ w.3)
] refl h

less_one : (q x : List ℕ) (front back xs : List (List ℕ)) → filter (tied x) front ≡ [] → filter (tied q) (front ++ x ∷ back) ≡ filter (tied q) (x ∷ xs) → filter (tied q) (front ++ back) ≡ filter (tied q) xs
less_one q x front back xs none h =
    filter_append (tied q) front back
    ∙ elim (tied q x) as (λ b. tied q x ≡ b → filter (tied q) front ++ cond b (x ∷ filter (tied q) back) (filter (tied q) back) ≡ cond b (x ∷ filter (tied q) xs) (filter (tied q) xs) → filter (tied q) front ++ filter (tied q) back ≡ filter (tied q) xs) [
      | true ↦ λ e k. let n : filter (tied q) front ≡ [] = subst (λ w. filter (tied w) front ≡ []) (sym (tied_is q x e)) none in
          ap (λ l. l ++ filter (tied q) back) n ∙ ap rest_of (sym (ap (λ l. l ++ x ∷ filter (tied q) back) n) ∙ k)
      | false ↦ λ e k. k
    ] refl (sym (filter_append (tied q) front (x ∷ back)) ∙ h)

same_ties : (xs ys : List (List ℕ)) → ((q : List ℕ) → filter (tied q) ys ≡ filter (tied q) xs) → Same xs ys
same_ties [] [] h = refl
same_ties [] (y ∷ ys) h = not_empty y (filter (tied y) ys) (sym (ap (λ b. cond b (y ∷ filter (tied y) ys) (filter (tied y) ys)) (tied_to_itself y)) ∙ h y)
same_ties (x ∷ xs) ys h =
    let w = first_tied x ys (filter (tied x) xs) (h x ∙ ap (λ b. cond b (x ∷ filter (tied x) xs) (filter (tied x) xs)) (tied_to_itself x)) in
    (w.0, w.1, w.2, same_ties xs (w.0 ++ w.1) (λ q. less_one q x w.0 w.1 xs w.3 (sym (ap (filter (tied q)) w.2) ∙ h q)))

-- what a sort leaves
pub sorted_is : (xs ys : List (List ℕ)) → IsStable text_cmp xs ys → IsSorted text_cmp ys → ys ≡ sorted xs
sorted_is xs ys stable up = sym (sorted_again ys up) ∙ sym (sorted_same xs ys (same_ties xs ys stable))
