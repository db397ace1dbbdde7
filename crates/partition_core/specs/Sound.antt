-- What holds of each partition in memory, whatever it stands for.
use Rattle.std.specs.Prelude.{◌≡◌, ℕ, ◌+◌, ◌≤◌, true, false, List, [], ◌∷◌, length, ⊤}
use Rattle.site_vector.specs.declared.ids.PartId.{PartId}
use Rattle.site_vector.specs.declared.ids.TxId.{TxId}
use Rattle.crdt_core.specs.Parts.{lists}
use Rattle.prepared_table.specs.declared.entry.Entry.{Entry}
use Rattle.prepared_table.specs.Entries.{has_entry}
use Rattle.effect_store.specs.Stored.{Stored}
use Rattle.world_model.specs.lines.Places.{IsPlace}

-- its place, and the width of its vectors
pub record IsPlaced (id : PartId) (sites parts : ℕ) (bounds sent : List ℕ) : Type 0 where
  pub place : IsPlace sites parts id
  pub most_sites : sites ≤ 8
  pub most_parts : parts ≤ 16
  pub wide_bounds : length bounds ≡ sites
  pub wide_sent : length sent ≡ sites

module _ {E : Type 0} where
  -- how many updates are pending
  abbrev pub updates_pending : List (Entry E) → ℕ
  updates_pending [] = 0
  updates_pending (x ∷ xs) = length x.updates + updates_pending xs

  -- no transaction is pending twice
  abbrev pub AreSingle : List (Entry E) → Type 0
  AreSingle [] = ⊤
  AreSingle (x ∷ xs) = (has_entry xs x.tx ≡ false) × AreSingle xs

  -- what is pending isn't held, and the store has room for all of it
  pub record HasRoom (pending : List (Entry E)) (promised : ℕ) (store : Stored E) : Type 0 where
    pub single : AreSingle pending
    pub apart : (u : TxId) → has_entry pending u ≡ true → lists store.parts u ≡ false
    pub counted : promised ≡ updates_pending pending
    pub room : length pending ≤ store.room
    pub update_room : promised ≤ store.update_room

  -- all its parts are of one cluster
  pub record IsSound (id : PartId) (sites parts : ℕ) (bounds sent : List ℕ) (pending : List (Entry E)) (promised : ℕ) (store : Stored E) (heard_sites heard_parts : ℕ) : Type 0 where
    pub placed : IsPlaced id sites parts bounds sent
    -- what is pending began at its site
    pub home : (u : TxId) → has_entry pending u ≡ true → u.site ≡ id.site
    pub rooms : HasRoom pending promised store
    pub store_sites : store.sites ≡ sites
    pub gossip_sites : heard_sites ≡ sites
    pub gossip_parts : heard_parts ≡ parts
