-- Fold order is an order: of parts by their transactions, and of updates by their parts and places.
use Rattle.std.proofs.Common.{◌≡◌, ◌≢◌, ◌<◌, ℕ, arith, true, false, ◌||◌, refl, sym, ap, ◌∙◌}
use Rattle.std.specs.Ordering.{nat_cmp, ordering_then, ordering_reverse}
use Rattle.std.specs.declared.cmp.Ordering.{Ordering}
use Rattle.std.specs.declared.cmp.Ordering.TheVariants.{Less, Equal, Greater}
use Rattle.std.specs.Cmp.{IsTotalOrder, ranked, nat_cmp_is}
use Rattle.std.proofs.lemmas.Cmp.{nat_cmp_total, on_total, then_total, tied_itself}
use Rattle.std.proofs.lemmas.Map.Lookups.{exact_unsigned}
use Rattle.site_vector.specs.Vector.{sum}
use Rattle.site_vector.specs.Order.{tx_cmp, tx_cmp_total, tx_cmp_exact}
use Rattle.crdt_core.specs.declared.record.Part.{Part}
use Rattle.crdt_core.specs.Orders.{is_less, fold_cmp}
use Rattle.effect_store.specs.Arranged.{IsOrder}
use Rattle.effect_store.specs.Links.{capped}
use Rattle.effect_store.specs.Spots.{Spot, earlier, spot_cmp, before, later}

is_less-true : (r : Ordering) → is_less r ≡ true → r ≡ Less
is_less-true Less h = refl
is_less-true Equal h = cc
is_less-true Greater h = cc

-- a total order tells what comes before
pub order_of : {X : Type 0} (cmp : X → X → Ordering) → IsTotalOrder cmp → IsOrder (λ x y. is_less (cmp x y))
order_of cmp o = record {
  strict = λ x. ap is_less (tied_itself o x);
  follows = λ x y z h k. ap is_less (o.trans x y z (is_less-true (cmp x y) h) (is_less-true (cmp y z) k));
}

one_or_other : (r s : Ordering) → r ≡ ordering_reverse s → r ≢ Equal → is_less r || is_less s ≡ true
one_or_other Less s h n = refl
one_or_other Equal s h n = absurd (n refl)
one_or_other Greater Less h n = refl
one_or_other Greater Equal h n = cc
one_or_other Greater Greater h n = cc

-- what doesn't compare as equal stands on one side or the other
pub apart_by : {X : Type 0} (cmp : X → X → Ordering) → IsTotalOrder cmp → (x y : X) → cmp x y ≢ Equal → is_less (cmp x y) || is_less (cmp y x) ≡ true
apart_by cmp o x y n = one_or_other (cmp x y) (cmp y x) (o.antisymm x y) n

then_first : (r s : Ordering) → ordering_then r s ≡ Equal → r ≡ Equal
then_first Less s h = cc
then_first Equal s h = refl
then_first Greater s h = cc

pub then_second : (r s : Ordering) → ordering_then r s ≡ Equal → s ≡ Equal
then_second Less s h = cc
then_second Equal s h = h
then_second Greater s h = cc

less_then : (r s : Ordering) → is_less r ≡ true → is_less (ordering_then r s) ≡ true
less_then Less s h = refl
less_then Equal s h = cc
less_then Greater s h = cc

equal_then : (r s : Ordering) → r ≡ Equal → s ≡ Less → is_less (ordering_then r s) ≡ true
equal_then Less s h k = cc
equal_then Equal s h k = ap is_less k
equal_then Greater s h k = cc

module _ {E : Type 0} where
  pub fold_cmp_total : IsTotalOrder {K = Part E} fold_cmp
  fold_cmp_total = then_total (on_total (λ (p : Part E). sum p.c) nat_cmp_total) (on_total (λ (p : Part E). p.tx) tx_cmp_total)

  pub spot_cmp_total : IsTotalOrder {K = Spot E} spot_cmp
  spot_cmp_total = then_total (on_total (λ (x : Spot E). x.part) fold_cmp_total) (on_total (λ (x : Spot E). x.at) nat_cmp_total)

  pub earlier_order : IsOrder {X = Part E} earlier
  earlier_order = order_of fold_cmp fold_cmp_total

  pub before_order : IsOrder {X = Spot E} before
  before_order = order_of spot_cmp spot_cmp_total

  pub later_order : IsOrder {X = Spot E} later
  later_order = record { strict = before_order.strict; follows = λ x y z a b. before_order.follows z y x b a }

  pub parts_apart : (p q : Part E) → p.tx ≢ q.tx → earlier p q || earlier q p ≡ true
  parts_apart p q n = apart_by fold_cmp fold_cmp_total p q (λ e. n (tx_cmp_exact p.tx q.tx (then_second _ _ e)))

  -- updates of one part are told by their places
  pub spots_apart : (x y : Spot E) → x.at ≢ y.at → before x y || before y x ≡ true
  spots_apart x y n = apart_by spot_cmp spot_cmp_total x y (λ e. n (exact_unsigned x.at y.at (then_second _ _ e)))

  pub before_by_parts : (x y : Spot E) → earlier x.part y.part ≡ true → before x y ≡ true
  before_by_parts x y h = less_then (fold_cmp x.part y.part) _ h

  pub before_by_places : (x y : Spot E) → x.part ≡ y.part → nat_cmp x.at y.at ≡ Less → before x y ≡ true
  before_by_places x y e h = equal_then (fold_cmp x.part y.part) _ (ap (λ p. fold_cmp x.part p) (sym e) ∙ tied_itself fold_cmp_total x.part) h

below_cap : (a b : ℕ) → nat_cmp (capped a) (capped b) ≡ Less → nat_cmp a b ≡ Less
below_cap a b h =
    let l : capped a < capped b = ranked (capped a) (capped b) Less (sym h) in
    let n : a < b = omega (arith, l) in
    sym (nat_cmp_is a b Less n)

above_cap : (a b : ℕ) → nat_cmp (capped a) (capped b) ≡ Greater → nat_cmp a b ≡ Greater
above_cap a b h =
    let l : capped b < capped a = ranked (capped a) (capped b) Greater (sym h) in
    let n : b < a = omega (arith, l) in
    sym (nat_cmp_is a b Greater n)

module _ {E : Type 0} where
  by_sum : (q p : Part E) (n m : ℕ) (r : Ordering) → nat_cmp (sum q.c) (sum p.c) ≡ r → is_less (ordering_then (fold_cmp q p) (nat_cmp n m)) ≡ is_less (ordering_then (ordering_then r (tx_cmp q.tx p.tx)) (nat_cmp n m))
  by_sum q p n m r h = ap (λ o. is_less (ordering_then (ordering_then o (tx_cmp q.tx p.tx)) (nat_cmp n m))) h

  -- a part with the lesser sum comes before, whatever the places
  pub less_sum : (q p : Part E) (t s n m : ℕ) → t ≡ capped (sum q.c) → s ≡ capped (sum p.c) → nat_cmp t s ≡ Less → true ≡ is_less (ordering_then (fold_cmp q p) (nat_cmp n m))
  less_sum q p t s n m e f h = sym (by_sum q p n m Less (below_cap (sum q.c) (sum p.c) (rw (← e, ← f) h)))

  -- and one with the greater sum doesn't
  pub greater_sum : (q p : Part E) (t s n m : ℕ) → t ≡ capped (sum q.c) → s ≡ capped (sum p.c) → nat_cmp t s ≡ Greater → false ≡ is_less (ordering_then (fold_cmp q p) (nat_cmp n m))
  greater_sum q p t s n m e f h = sym (by_sum q p n m Greater (above_cap (sum q.c) (sum p.c) (rw (← e, ← f) h)))
