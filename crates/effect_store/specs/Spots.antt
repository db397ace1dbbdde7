-- The updates of parts, each with its part and its place in it, and their order.
use Rattle.std.specs.Prelude.{ℕ, ◌+◌, ◌*◌, ◌%◌, ◌^◌, suc, Bool, List, [], ◌∷◌, ◌++◌, take, Option, None, Some}
use Rattle.std.specs.List.{slice_get}
use Rattle.std.specs.Ordering.{nat_cmp, ordering_then}
use Rattle.std.specs.declared.cmp.Ordering.{Ordering}
use Rattle.crdt_core.specs.declared.object.ObjectId.{ObjectId}
use Rattle.crdt_core.specs.declared.record.Upd.{Upd}
use Rattle.crdt_core.specs.declared.record.Part.{Part}
use Rattle.crdt_core.specs.Kinds.{kind_code}
use Rattle.crdt_core.specs.Orders.{is_less, fold_cmp}
use Rattle.effect_store.specs.Arranged.{flat}

-- an update, the part that it is of, and its place in that part's list
pub record Spot (E : Type 0) : Type 0 where
  pub part : Part E
  pub at : ℕ
  pub update : Upd E

-- a number made of bytes, which tells most objects apart
abbrev pub hashed : ℕ → List ℕ → ℕ
hashed h [] = h
hashed h (b ∷ bs) = hashed ((h * 1000003 % 2 ^ 64 + b) % 2 ^ 64) bs

abbrev pub tag_of_object : ObjectId → ℕ
tag_of_object o = hashed (hashed (kind_code o.kind) o.bucket) o.key

module _ {E : Type 0} where
  abbrev pub tag_of : Spot E → ℕ
  tag_of x = tag_of_object x.update.object

  -- these updates of a part, from a place on
  abbrev pub spots_from : Part E → ℕ → List (Upd E) → List (Spot E)
  spots_from p n [] = []
  spots_from p n (u ∷ us) = record { part = p; at = n; update = u } ∷ spots_from p (suc n) us

  abbrev pub spots_in : Part E → List (Spot E)
  spots_in p = spots_from p 0 p.updates

  abbrev pub spots : List (Part E) → List (Spot E)
  spots parts = flat spots_in parts

  -- the first updates of a part, if there is one
  abbrev pub spots_of : Option (Part E) → ℕ → List (Spot E)
  spots_of None n = []
  spots_of (Some p) n = spots_from p 0 (take n p.updates)

  -- those of the parts before a place, and the first ones of the part at it
  abbrev pub spots_to : List (Part E) → ℕ → ℕ → List (Spot E)
  spots_to parts place n = spots (take place parts) ++ spots_of (slice_get parts place) n

  -- fold order
  abbrev pub earlier : Part E → Part E → Bool
  earlier p q = is_less (fold_cmp p q)

  abbrev pub spot_cmp : Spot E → Spot E → Ordering
  spot_cmp x y = ordering_then (fold_cmp x.part y.part) (nat_cmp x.at y.at)

  abbrev pub before : Spot E → Spot E → Bool
  before x y = is_less (spot_cmp x y)

  abbrev pub later : Spot E → Spot E → Bool
  later x y = before y x
