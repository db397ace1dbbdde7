-- What a partition keeps in memory, as contracts see it.
use Rattle.std.specs.Prelude.{◌≡◌, ℕ, Bool, ◌||◌, List}
use Rattle.site_vector.specs.declared.ids.PartId.{PartId}
use Rattle.site_vector.specs.declared.ids.TxId.{TxId}
use Rattle.crdt_core.specs.declared.record.Part.{Part}
use Rattle.crdt_core.specs.Parts.{lists}
use Rattle.prepared_table.specs.declared.entry.Entry.{Entry}
use Rattle.prepared_table.specs.Entries.{has_entry}

pub record Tables (E : Type 0) : Type 0 where
  pub id : PartId
  -- of the cluster, and of each site
  pub sites : ℕ
  pub parts : ℕ
  pub clock : ℕ
  -- the greatest time that the clock may show
  pub ceiling : ℕ
  -- the pending transactions, by prepare time and transaction
  pub pending : List (Entry E)
  -- what is held of committed transactions, in fold order
  pub held : List (Part E)
  -- up to where the messages of each other site were taken
  pub bounds : List ℕ
  -- the bounds that it heard of each partition of its site
  pub heard : List (List ℕ)
  -- the last time sent to each site
  pub sent : List ℕ

module _ {E : Type 0} where
  -- they are of the same partition of the same cluster
  pub record IsSame (old new : Tables E) : Type 0 where
    pub id : new.id ≡ old.id
    pub sites : new.sites ≡ old.sites
    pub parts : new.parts ≡ old.parts

  -- the transaction is pending or held
  abbrev pub knows : Tables E → TxId → Bool
  knows t tx = has_entry t.pending tx || lists t.held tx
