-- What a store keeps true of its parts.
use Rattle.std.specs.Prelude.{◌≡◌, ℕ, ◌+◌, ◌≤◌, ◌==◌, List, length, Option, Some}
use Rattle.std.specs.List.{slice_get}
use Rattle.site_vector.specs.declared.ids.TxId.{TxId}
use Rattle.crdt_core.specs.declared.record.Part.{Part}
use Rattle.effect_store.specs.Arranged.{Each}
use Rattle.effect_store.specs.Chains.{none}

module _ {E : Type 0} where
  -- each part's transaction names its place, and commit vectors have an entry for each site
  pub record IsStore (sites : ℕ) (parts : List (Part E)) (ids : TxId → Option ℕ) : Type 0 where
    pub held : (k : ℕ) (p : Part E) → slice_get parts k ≡ Some p → ids p.tx ≡ Some k
    pub named : (t : TxId) (k : ℕ) → ids t ≡ Some k → (p : Part E) × (slice_get parts k ≡ Some p) × (p.tx ≡ t)
    pub wide : Each (λ p. length p.c == sites) parts

-- room for so many more parts
pub record PartRoom (room len capacity spare : ℕ) : Type 0 where
  pub small : len + room ≤ none
  pub of_parts : len + room ≤ capacity
  pub of_ids : room ≤ spare
