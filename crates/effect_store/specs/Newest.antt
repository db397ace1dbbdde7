-- The newest state of an object: that with a front of its updates applied.
use Rattle.std.specs.Prelude.{◌≡◌, ℕ, Bool, true, not, ◌&&◌, ◌||◌, List, ◌++◌, length, Option, Some, map}
use Rattle.std.specs.List.{slice_get, filter}
use Rattle.site_vector.specs.declared.ids.Dot.{Dot}
use Rattle.site_vector.specs.Vector.{le}
use Rattle.crdt_core.specs.declared.kind.Kind.{Kind}
use Rattle.crdt_core.specs.declared.object.ObjectId.{ObjectId}
use Rattle.crdt_core.specs.Objects.{same_object}
use Rattle.effect_store.specs.declared.newest.Newest.{Newest}
use Rattle.effect_store.specs.Arranged.{arranged, Each}
use Rattle.effect_store.specs.Chains.{chain}
use Rattle.effect_store.specs.Spots.{Spot, tag_of, tag_of_object, before}
use Rattle.effect_store.specs.Wanted.{pair}
use Rattle.effect_store.specs.Applied.{applied}

module _ {E : Type 0} where
  abbrev pub own : ObjectId → Spot E → Bool
  own o y = same_object y.update.object o

  -- an update of the object of q that isn't after q
  abbrev pub front : Spot E → Spot E → Bool
  front q y = own q.update.object y && not (before q y)

  abbrev pub own_after : ObjectId → Spot E → Spot E → Bool
  own_after o q y = own o y && before q y

-- the state has the updates up to the one at its place applied, and no commit vector of theirs is above `seen`
pub record IsNewest {S E : Type 0} (first : Kind → S) (step : S → Dot → E → S) (sites : ℕ) (xs : List (Spot E)) (tag : ℕ) (n : Newest S) : Type 0 where
  pub last : Spot E
  pub there : slice_get xs n.at ≡ Some last
  pub tagged : tag_of last ≡ tag
  pub width : length n.seen ≡ sites
  pub covers : Each (λ y. not (front last y) || le y.part.c n.seen) (arranged before xs)
  pub state : n.state ≡ applied step (first last.update.object.kind) (map pair (filter (front last) (arranged before xs)))

abbrev pub AreNewest : {S E : Type 0} → (Kind → S) → (S → Dot → E → S) → ℕ → List (Spot E) → (ℕ → Option (Newest S)) → Type 0
AreNewest {S} first step sites xs newest = (tag : ℕ) (n : Newest S) → newest tag ≡ Some n → IsNewest first step sites xs tag n

-- while updates are applied: those of a list are, and a walk from a place gives the others
pub record IsApplying {S E : Type 0} (first : Kind → S) (step : S → Dot → E → S) (o : ObjectId) (sites : ℕ) (xs : List (Spot E)) (from : ℕ) (n : Newest S) : Type 0 where
  pub done : List (Spot E)
  pub parted : done ++ filter (own o) (chain tag_of before xs from) ≡ filter (own o) (arranged before xs)
  pub width : length n.seen ≡ sites
  pub covers : Each (λ y. le y.part.c n.seen) done
  pub state : n.state ≡ applied step (first o.kind) (map pair done)
  pub last : (q : Spot E) → slice_get xs n.at ≡ Some q → (own o q ≡ true) × (filter (own o) (chain tag_of before xs from) ≡ filter (own_after o q) (arranged before xs))

-- where it stands at an update, it is a newest state of the object
pub record IsFront {S E : Type 0} (first : Kind → S) (step : S → Dot → E → S) (o : ObjectId) (sites : ℕ) (xs : List (Spot E)) (n : Newest S) : Type 0 where
  pub newest : (q : Spot E) → slice_get xs n.at ≡ Some q → IsNewest first step sites xs (tag_of_object o) n
