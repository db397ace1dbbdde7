-- The lists of all sites, and the room in each.
use Rattle.std.specs.Prelude.{◌≡◌, ℕ, ◌+◌, ◌<◌, ◌≤◌, List, Some, vec_len, vec_capacity}
use Rattle.std.specs.List.{slice_get}
use Rattle.crdt_core.specs.declared.record.Part.{Part}
use Rattle.effect_store.specs.declared.commits.Commits.{Commits}
use Rattle.effect_store.specs.Commits.{IsList}

abbrev pub AreLists : {E : Type 0} → ℕ → List (Part E) → List Commits → Type 0
AreLists sites parts lists = (k : ℕ) (l : Commits) → k < sites → slice_get lists k ≡ Some l → IsList (k + 1) parts l.places.items

-- room for so many more parts, whatever sites they are of
abbrev pub ListRoom : ℕ → ℕ → List Commits → Type 0
ListRoom sites n lists = (k : ℕ) (l : Commits) → k < sites → slice_get lists k ≡ Some l → vec_len l.places + n ≤ vec_capacity l.places

-- the same places, in other memory
abbrev pub SameLists : List Commits → List Commits → Type 0
SameLists old new = (k : ℕ) (l : Commits) → slice_get new k ≡ Some l → (m : Commits) × (slice_get old k ≡ Some m) × (l.places.items ≡ m.places.items)
