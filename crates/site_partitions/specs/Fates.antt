-- What is pending at a partition, as whatever run left it tells.
use Rattle.std.specs.Prelude.{◌≡◌, ℕ, true, false, List, map, Option, None, Some}
use Rattle.site_vector.specs.declared.ids.PartId.{PartId}
use Rattle.site_vector.specs.declared.ids.TxId.{TxId}
use Rattle.crdt_core.specs.declared.record.Record.{Record}
use Rattle.crdt_core.specs.Log as log
use Rattle.crdt_core.specs.Log.{prepared_lead}
use Rattle.prepared_table.specs.declared.entry.Entry.{Entry}
use Rattle.world_model.specs.rules.Event as event
use Rattle.world_model.specs.rules.Partition.{PartState}
use Rattle.partition_core.specs.Stands.{IsTable}
use Rattle.site_partitions.specs.declared.fates.Waiting.{Waiting}
use Rattle.site_partitions.specs.Held.{Held}
use Rattle.site_partitions.specs.Reaches.{Types, Reaches}

module _ {E : Type 0} where
  abbrev pub waiting_of : Entry E → Waiting
  waiting_of e = record { tx = e.tx; lead = e.lead }

  -- the log leaves t pending with this lead, or not pending
  abbrev pub IsLead : List (Record E) → TxId → Option ℕ → Type 0
  IsLead l t None = log.pending l t ≡ false
  IsLead l t (Some n) = (log.pending l t ≡ true) × (n ≡ prepared_lead l t)

  -- these are all that the log leaves pending, in their order
  pub record AreWaiting (l : List (Record E)) (waiting : List Waiting) : Type 0 where
    pub entries : List (Entry E)
    pub table : IsTable l entries
    pub are : waiting ≡ map waiting_of entries

-- wherever a run that the cluster reached left this partition, it is so
abbrev pub OfState : {S E D : Type 0} → Types S E D → Held E D → PartId → (PartState E → Type 0) → Type 0
OfState {S} {E} w c at P = (run : List (event.Entry E)) (r : Reaches w c run) → P (r.state at)
