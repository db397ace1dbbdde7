-- Elements that don't tie go into a list in any order.
use Rattle.std.proofs.Common.{◌≡◌, ◌≢◌, Bool, true, false, ◌||◌, List, [], ◌∷◌, refl, ap}
use Rattle.std.specs.Cmp.{IsTotalOrder}
use Rattle.std.specs.Ordering.{ordering_reverse}
use Rattle.std.specs.declared.cmp.Ordering.{Ordering}
use Rattle.std.specs.declared.cmp.Ordering.TheVariants.{Less, Equal, Greater}
use Rattle.crdt_core.specs.Orders.{is_less, insert_by}
use Rattle.partition_core.proofs.Sorting.{less_is, not_back}

less_either : (r q : Ordering) → r ≢ Equal → q ≡ ordering_reverse r → is_less r || is_less q ≡ true
less_either Less q n e = refl
less_either Equal q n e = absurd (n refl)
less_either Greater q n e = ap is_less e

module _ {A : Type 0} (cmp : A → A → Ordering) (total : IsTotalOrder cmp) where
  abbrev under : A → A → Bool
  under x y = is_less (cmp x y)

  follows : (x y z : A) → under x y ≡ true → under y z ≡ true → under x z ≡ true
  follows x y z e f = ap is_less (total.trans x y z (less_is (cmp x y) e) (less_is (cmp y z) f))

  swap_by : (x y z : A) (zs : List A) (a b c d : Bool) → under x z ≡ a → under y z ≡ b → under x y ≡ c → under y x ≡ d → c || d ≡ true → insert_by cmp x (insert_by cmp y zs) ≡ insert_by cmp y (insert_by cmp x zs)
      → insert_by cmp x (insert_by cmp y (z ∷ zs)) ≡ insert_by cmp y (insert_by cmp x (z ∷ zs))
  swap_by x y z zs a b true true h k f g e i = absurd (not_back cmp total x y (less_is (cmp x y) f) (less_is (cmp y x) g))
  swap_by x y z zs a b false false h k f g e i = cc
  swap_by x y z zs true true true false h k f g e i = rw (h, k, f, g) refl
  swap_by x y z zs true true false true h k f g e i = rw (h, k, f, g, h) refl
  swap_by x y z zs true false c true h k f g e i = let v : under y z ≡ true = follows y x z g h in cc
  swap_by x y z zs true false true false h k f g e i = rw (h, k, h, g) refl
  swap_by x y z zs false true true d h k f g e i = let v : under x z ≡ true = follows x y z f k in cc
  swap_by x y z zs false true false true h k f g e i = rw (h, k, f, h) refl
  swap_by x y z zs false false c d h k f g e i = rw (h, k, h) (ap (λ l. z ∷ l) i)

  pair_by : (x y : A) (c d : Bool) → under x y ≡ c → under y x ≡ d → c || d ≡ true → insert_by cmp x (y ∷ []) ≡ insert_by cmp y (x ∷ [])
  pair_by x y true true f g e = absurd (not_back cmp total x y (less_is (cmp x y) f) (less_is (cmp y x) g))
  pair_by x y true false f g e = rw (f, g) refl
  pair_by x y false true f g e = rw (f, g) refl
  pair_by x y false false f g e = cc

  pub swapped : (x y : A) (zs : List A) → cmp x y ≢ Equal → insert_by cmp x (insert_by cmp y zs) ≡ insert_by cmp y (insert_by cmp x zs)
  swapped x y [] n = pair_by x y (under x y) (under y x) refl refl (less_either (cmp x y) (cmp y x) n (total.antisymm y x))
  swapped x y (z ∷ zs) n = swap_by x y z zs (under x z) (under y z) (under x y) (under y x) refl refl refl refl (less_either (cmp x y) (cmp y x) n (total.antisymm y x)) (swapped x y zs n)
