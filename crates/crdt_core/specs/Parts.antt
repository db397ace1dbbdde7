-- Lists of parts, and what they hold of a transaction.
use Rattle.std.specs.Prelude.{◌≡◌, ℕ, Bool, false, ◌&&◌, ◌||◌, ◌==◌, ltb, leb, if◌then◌else◌, List, [], ◌∷◌, filter, ⊤}
use Rattle.std.specs.List.{list_any}
use Rattle.site_vector.specs.declared.ids.TxId.{TxId}
use Rattle.site_vector.specs.Ids.{same_tx}
use Rattle.site_vector.specs.Vector.{le, entry}
use Rattle.crdt_core.specs.declared.object.ObjectId.{ObjectId}
use Rattle.crdt_core.specs.declared.record.Upd.{Upd}
use Rattle.crdt_core.specs.declared.record.Part.{Part}
use Rattle.crdt_core.specs.Objects.{same_object}

module _ {E : Type 0} where
  -- an update of the object is among these
  abbrev pub touches : List (Upd E) → ObjectId → Bool
  touches us o = list_any (λ u. same_object u.object o) us

  -- a part of t is among these
  abbrev pub lists : List (Part E) → TxId → Bool
  lists [] t = false
  lists (x ∷ xs) t = same_tx x.tx t || lists xs t

  -- the commit vector of t, as the first part of t has it
  abbrev pub vector_in : List (Part E) → TxId → List ℕ
  vector_in [] t = []
  vector_in (x ∷ xs) t = if same_tx x.tx t then x.c else vector_in xs t

  -- what t changed, as the first part of t has it
  abbrev pub changes_in : List (Part E) → TxId → List (Upd E)
  changes_in [] t = []
  changes_in (x ∷ xs) t = if same_tx x.tx t then x.updates else changes_in xs t

  -- each of these parts has this commit vector and these changes
  abbrev pub AreParts : (TxId → List ℕ) → (TxId → List (Upd E)) → List (Part E) → Type 0
  AreParts vector changes [] = ⊤
  AreParts vector changes (x ∷ xs) = ((x.c ≡ vector x.tx) × (x.updates ≡ changes x.tx)) × AreParts vector changes xs

  -- the parts whose commit time at their site is above a bound
  abbrev pub above : ℕ → ℕ → List (Part E) → List (Part E)
  above site b [] = []
  above site b (x ∷ xs) = if ltb b (entry x.c site) then x ∷ above site b xs else above site b xs

  -- the parts that change the object and that a snapshot shows
  abbrev pub seen_parts : ObjectId → List ℕ → List (Part E) → List (Part E)
  seen_parts o s xs = filter (λ x. touches x.updates o && le x.c s) xs

  -- the parts of a site with a commit time above lo and at most hi
  abbrev pub parts_between : ℕ → ℕ → ℕ → List (Part E) → List (Part E)
  parts_between site lo hi xs = filter (λ x. x.tx.site == site && (ltb lo (entry x.c site) && leb (entry x.c site) hi)) xs
