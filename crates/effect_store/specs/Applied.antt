-- A state with updates applied, and the updates of an object that a snapshot shows.
use Rattle.std.specs.Prelude.{ℕ, Bool, ◌&&◌, ◌==◌, List, [], ◌∷◌, length, map}
use Rattle.std.specs.List.{filter}
use Rattle.site_vector.specs.declared.ids.Dot.{Dot}
use Rattle.site_vector.specs.Vector.{le}
use Rattle.crdt_core.specs.declared.object.ObjectId.{ObjectId}
use Rattle.crdt_core.specs.declared.record.Upd.{Upd}
use Rattle.crdt_core.specs.declared.record.Part.{Part}
use Rattle.crdt_core.specs.Objects.{same_object}
use Rattle.effect_store.specs.Arranged.{Each}
use Rattle.effect_store.specs.Chains.{chain}
use Rattle.effect_store.specs.Spots.{Spot, spots, tag_of, before}
use Rattle.effect_store.specs.Wanted.{pair}

-- one after another
abbrev pub applied : {S E : Type 0} → (S → Dot → E → S) → S → List (Part E × Upd E) → S
applied step state [] = state
applied step state (x ∷ xs) = applied step (step state (record { tx = x.0.tx; index = x.1.index }) x.1.effect) xs

module _ {E : Type 0} where
  -- an update of the object, in a part that passes a test
  abbrev pub mine : ObjectId → (Part E → Bool) → Spot E → Bool
  mine o t x = same_object x.update.object o && t x.part

  abbrev pub shows : List ℕ → Part E → Bool
  shows s p = le p.c s

  -- what a snapshot shows of the object from a place on, in fold order
  abbrev pub shown : ObjectId → List ℕ → List (Part E) → ℕ → List (Part E × Upd E)
  shown o s parts at = map pair (filter (mine o (shows s)) (chain tag_of before (spots parts) at))

  -- the commit vectors have this width
  abbrev pub AreWide : ℕ → List (Part E) → Type 0
  AreWide width parts = Each (λ p. length p.c == width) parts
