-- What a log tells a partition that reads it again, and the state in which the partition comes up.
use Rattle.std.specs.Prelude.{◌≡◌, ℕ, true, List, [], replicate}
use Rattle.site_vector.specs.declared.ids.TxId.{TxId}
use Rattle.crdt_core.specs.declared.record.Upd.{Upd}
use Rattle.crdt_core.specs.declared.record.Record.{Record}
use Rattle.crdt_core.specs.Log.{ceiling}
use Rattle.crdt_core.specs.Orders.{Ascends}
use Rattle.prepared_table.specs.declared.entry.Entry.{Entry}
use Rattle.prepared_table.specs.Entries.{has_entry, entry_cmp}
use Rattle.log_recovery.specs.Lists as recovery
use Rattle.world_model.specs.rules.Partition.{PartState}
use Rattle.partition_core.specs.Sound.{AreSingle, updates_pending}
use Rattle.partition_core.specs.Stands.{AreEntries}

module _ {E : Type 0} where
  -- up, with a clock that shows the ceiling; what was heard and sent is forgotten
  abbrev pub resumed : ℕ → ℕ → List ℕ → List (Record E) → PartState E
  resumed sites parts bounds log = record { up = true; now = ceiling log; log = log; torn = []; bounds = bounds; heard = replicate parts (replicate sites 0); sent = replicate sites 0 }

  -- a table of these entries, in order, and how many updates they have
  pub record IsTableOf (entries table : List (Entry E)) (promised : ℕ) : Type 0 where
    pub members : (u : TxId) → has_entry table u ≡ has_entry entries u
    pub exact : (tells : TxId → ℕ × ℕ × List ℕ × List (Upd E)) → recovery.AreEntries tells entries → AreEntries tells table
    pub single : AreSingle table
    pub order : Ascends entry_cmp table
    pub counted : promised ≡ updates_pending table
