-- Lists in an order: one element more, one less, and the list of some in order.
use Rattle.std.proofs.Common.{◌≡◌, ◌≢◌, Bool, true, false, List, [], ◌∷◌, ◌++◌, refl, sym, ap, ◌∙◌}
use Rattle.std.specs.Prelude.{filter, ⊤}
use Rattle.std.proofs.lemmas.Bool.{true≢false}
use Rattle.std.specs.Cmp.{IsTotalOrder}
use Rattle.std.specs.Ordering.{ordering_then, ordering_reverse}
use Rattle.std.specs.declared.cmp.Ordering.{Ordering}
use Rattle.std.specs.declared.cmp.Ordering.TheVariants.{Less, Equal, Greater}
use Rattle.crdt_core.specs.Orders.{Precede, Ascends, is_less, insert_by}
use Rattle.partition_core.proofs.Choices.{chosen}

-- it ties with none of these
abbrev pub TiesWithNone : {A : Type 0} → (A → A → Ordering) → A → List A → Type 0
TiesWithNone cmp y [] = ⊤
TiesWithNone cmp y (x ∷ xs) = (cmp y x ≢ Equal) × TiesWithNone cmp y xs

pub less_is : (r : Ordering) → is_less r ≡ true → r ≡ Less
less_is Less e = refl
less_is Equal e = absurd (true≢false (sym e))
less_is Greater e = absurd (true≢false (sym e))

turned : (r q : Ordering) → is_less r ≡ false → r ≢ Equal → q ≡ ordering_reverse r → q ≡ Less
turned Less q l n e = absurd (true≢false l)
turned Equal q l n e = absurd (n refl)
turned Greater q l n e = e

pub then_equal : (r s : Ordering) → ordering_then r s ≡ Equal → s ≡ Equal
then_equal Less s e = cc
then_equal Equal s e = e
then_equal Greater s e = cc

module _ {A : Type 0} (cmp : A → A → Ordering) where
  pub precede_append : (x : A) (xs ys : List A) → Precede cmp x xs → Precede cmp x ys → Precede cmp x (xs ++ ys)
  precede_append x [] ys h k = k
  precede_append x (z ∷ xs) ys h k = (h.0, precede_append x xs ys h.1 k)

  pub precede_front : (x : A) (xs ys : List A) → Precede cmp x (xs ++ ys) → Precede cmp x xs
  precede_front x [] ys h = tt
  precede_front x (z ∷ xs) ys h = (h.0, precede_front x xs ys h.1)

  pub precede_back : (x : A) (xs ys : List A) → Precede cmp x (xs ++ ys) → Precede cmp x ys
  precede_back x [] ys h = h
  precede_back x (z ∷ xs) ys h = precede_back x xs ys h.1

  pub ascends_without : (xs : List A) (y : A) (ys : List A) → Ascends cmp (xs ++ y ∷ ys) → Ascends cmp (xs ++ ys)
  ascends_without [] y ys a = a.1
  ascends_without (x ∷ xs) y ys a = (precede_append x xs ys (precede_front x xs (y ∷ ys) a.0) ((precede_back x xs (y ∷ ys) a.0).1), ascends_without xs y ys a.1)

  precede_filter : (q : A → Bool) (x : A) (xs : List A) → Precede cmp x xs → Precede cmp x (filter q xs)
  precede_filter q x [] h = tt
  precede_filter q x (y ∷ xs) h = let rest = precede_filter q x xs h.1 in chosen (Precede cmp x) (q y) (y ∷ filter q xs) (filter q xs) (λ k. (h.0, rest)) (λ k. rest)

  pub ascends_filter : (q : A → Bool) (xs : List A) → Ascends cmp xs → Ascends cmp (filter q xs)
  ascends_filter q [] a = tt
  ascends_filter q (x ∷ xs) a = let rest = ascends_filter q xs a.1 in chosen (Ascends cmp) (q x) (x ∷ filter q xs) (filter q xs) (λ k. (precede_filter q x xs a.0, rest)) (λ k. rest)

module _ {A : Type 0} (cmp : A → A → Ordering) (total : IsTotalOrder cmp) where
  pub not_itself : (x : A) → cmp x x ≢ Less
  not_itself x e = let f = ap ordering_reverse e in let g : Less ≡ Greater = sym e ∙ total.antisymm x x ∙ f in cc

  pub not_back : (x y : A) → cmp x y ≡ Less → cmp y x ≢ Less
  not_back x y l e = let g : Less ≡ Greater = sym e ∙ total.antisymm y x ∙ ap ordering_reverse l in cc

  precede_by : (y z : A) (zs : List A) → cmp y z ≡ Less → Precede cmp z zs → Precede cmp y zs
  precede_by y z [] l p = tt
  precede_by y z (w ∷ zs) l p = (total.trans y z w l p.0, precede_by y z zs l p.1)

  precede_inserted : (x y : A) (xs : List A) → cmp x y ≡ Less → Precede cmp x xs → Precede cmp x (insert_by cmp y xs)
  precede_inserted x y [] l p = (l, tt)
  precede_inserted x y (z ∷ xs) l p = chosen (Precede cmp x) (is_less (cmp y z)) (y ∷ z ∷ xs) (z ∷ insert_by cmp y xs) (λ k. (l, p)) (λ k. (p.0, precede_inserted x y xs l p.1))

  pub ascends_inserted : (y : A) (xs : List A) → Ascends cmp xs → TiesWithNone cmp y xs → Ascends cmp (insert_by cmp y xs)
  ascends_inserted y [] a n = (tt, tt)
  ascends_inserted y (x ∷ xs) a n =
      chosen (Ascends cmp) (is_less (cmp y x)) (y ∷ x ∷ xs) (x ∷ insert_by cmp y xs)
      (λ k. let l = less_is (cmp y x) k in ((l, precede_by y x xs l a.0), a))
      (λ k. (precede_inserted x y xs (turned (cmp y x) (cmp x y) k n.0 (total.antisymm x y)) a.0, ascends_inserted y xs a.1 n.1))
