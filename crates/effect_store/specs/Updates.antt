-- The updates of one object, each with its part.
use Rattle.std.specs.Prelude.{ℕ, not, if◌then◌else◌, List, [], ◌∷◌, ◌++◌}
use Rattle.std.specs.List.{filter}
use Rattle.site_vector.specs.Vector.{le}
use Rattle.crdt_core.specs.declared.object.ObjectId.{ObjectId}
use Rattle.crdt_core.specs.declared.record.Upd.{Upd}
use Rattle.crdt_core.specs.declared.record.Part.{Part}
use Rattle.crdt_core.specs.Objects.{same_object}

module _ {E : Type 0} where
  -- those among these updates of a part
  abbrev pub updates_in : ObjectId → Part E → List (Upd E) → List (Part E × Upd E)
  updates_in o p [] = []
  updates_in o p (u ∷ us) = if same_object u.object o then (p, u) ∷ updates_in o p us else updates_in o p us

  -- all updates of the object, part by part
  abbrev pub updates_of : ObjectId → List (Part E) → List (Part E × Upd E)
  updates_of o [] = []
  updates_of o (p ∷ ps) = updates_in o p p.updates ++ updates_of o ps

  -- those of parts that a snapshot doesn't show
  abbrev pub updates_outside : ObjectId → List ℕ → List (Part E) → List (Part E × Upd E)
  updates_outside o v ps = updates_of o (filter (λ p. not (le p.c v)) ps)
