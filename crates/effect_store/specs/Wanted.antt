-- What an iterator over the updates of an object gives.
use Rattle.std.specs.Prelude.{◌≡◌, ℕ, ◌≤◌, Bool, true, not, ◌&&◌, ◌==◌, List, length, Option, Some, None}
use Rattle.std.specs.List.{filter}
use Rattle.std.specs.Prelude.{map}
use Rattle.site_vector.specs.Vector.{le}
use Rattle.crdt_core.specs.declared.object.ObjectId.{ObjectId}
use Rattle.crdt_core.specs.declared.record.Upd.{Upd}
use Rattle.crdt_core.specs.declared.record.Part.{Part}
use Rattle.crdt_core.specs.Objects.{same_object}
use Rattle.effect_store.specs.declared.links.Links.{Links}
use Rattle.effect_store.specs.Arranged.{Each}
use Rattle.effect_store.specs.Chains.{none, chain}
use Rattle.effect_store.specs.Spots.{Spot, spots, tag_of, before}
use Rattle.effect_store.specs.Links.{AreLinks}

module _ {E : Type 0} where
  -- no snapshot is given, or it doesn't show the part
  abbrev pub is_outside : Option (List ℕ) → Part E → Bool
  is_outside None p = true
  is_outside (Some v) p = not (le p.c v)

  abbrev pub is_wanted : ObjectId → Option (List ℕ) → Part E → Upd E → Bool
  is_wanted o v p u = same_object u.object o && is_outside v p

  abbrev pub wants : ObjectId → Option (List ℕ) → Spot E → Bool
  wants o v x = is_wanted o v x.part x.update

  abbrev pub pair : Spot E → Part E × Upd E
  pair x = (x.part, x.update)

  -- what is wanted from a place on, in fold order
  abbrev pub wanted : ObjectId → Option (List ℕ) → List (Part E) → ℕ → List (Part E × Upd E)
  wanted o v parts at = map pair (filter (wants o v) (chain tag_of before (spots parts) at))

  -- the commit vectors have the width of the snapshot
  abbrev pub IsAsWide : Option (List ℕ) → List (Part E) → Type 0
  IsAsWide v parts = (s : List ℕ) → v ≡ Some s → Each (λ p. length p.c == length s) parts

  -- the links tell of all updates of the parts
  pub record LinksFit (parts : List (Part E)) (links : Links) : Type 0 where
    pub linked : AreLinks (spots parts) parts links
    pub small : length links.entries.items ≤ none
