-- When tables stand for a partition's state.
use Rattle.std.specs.Prelude.{◌≡◌, ◌≢◌, ℕ, ◌≤◌, true, false, List, [], ◌∷◌, ⊤}
use Rattle.site_vector.specs.declared.ids.TxId.{TxId}
use Rattle.crdt_core.specs.declared.record.Upd.{Upd}
use Rattle.crdt_core.specs.declared.record.Part.{Part}
use Rattle.crdt_core.specs.declared.record.Record.{Record}
use Rattle.crdt_core.specs.Log.{ceiling, prepared, prepare_time, prepared_lead, prepared_snapshot, prepared_changes, committed, aborted, taken, pending, holds, held_at, held_changes}
use Rattle.crdt_core.specs.Orders.{Ascends, fold_cmp}
use Rattle.crdt_core.specs.Parts.{lists, AreParts}
use Rattle.prepared_table.specs.declared.entry.Entry.{Entry}
use Rattle.prepared_table.specs.Entries.{has_entry, entry_cmp}
use Rattle.world_model.specs.rules.Partition.{PartState}
use Rattle.partition_core.specs.Tables.{Tables}

module _ {E : Type 0} where
  -- what a log tells of a prepared transaction: its time, the number of its lead, its snapshot, and its changes
  abbrev pub told : List (Record E) → TxId → ℕ × ℕ × List ℕ × List (Upd E)
  told log t = (prepare_time log t, prepared_lead log t, prepared_snapshot log t, prepared_changes log t)

  -- each entry is as this tells it
  abbrev pub AreEntries : (TxId → ℕ × ℕ × List ℕ × List (Upd E)) → List (Entry E) → Type 0
  AreEntries tells [] = ⊤
  AreEntries tells (x ∷ xs) = ((x.time, x.lead, x.s, x.updates) ≡ tells x.tx) × AreEntries tells xs

  -- the entries are what the log leaves pending
  pub record IsTable (log : List (Record E)) (entries : List (Entry E)) : Type 0 where
    pub order : Ascends entry_cmp entries
    pub members : (u : TxId) → has_entry entries u ≡ pending log u
    pub exact : AreEntries (told log) entries

  -- the parts are what the log holds
  pub record IsStore (log : List (Record E)) (parts : List (Part E)) : Type 0 where
    pub order : Ascends fold_cmp parts
    pub members : (u : TxId) → lists parts u ≡ holds log u
    pub exact : AreParts (held_at log) (held_changes log) parts

  -- what the log of a partition of this site tells of its tables, where its clock shows this time
  pub record Tells (log : List (Record E)) (site clock : ℕ) (entries : List (Entry E)) (parts : List (Part E)) : Type 0 where
    pub table : IsTable log entries
    pub store : IsStore log parts
    -- no prepare time is to come, and none is 0
    pub passed : (u : TxId) → pending log u ≡ true → prepare_time log u ≤ clock
    pub timed : (u : TxId) → pending log u ≡ true → 1 ≤ prepare_time log u
    -- what waits or was committed here began at this site, and what was brought began at another
    pub waiting : (u : TxId) → pending log u ≡ true → u.site ≡ site
    pub ended : (u : TxId) → committed log u ≡ true → u.site ≡ site
    pub brought : (u : TxId) → taken log u ≡ true → u.site ≢ site

  -- of a partition that is up
  pub record Stands (t : Tables E) (p : PartState E) : Type 0 where
    pub up : p.up ≡ true
    pub whole : p.torn ≡ []
    pub clock : p.now ≡ t.clock
    pub ceiling : ceiling p.log ≡ t.ceiling
    pub tells : Tells p.log t.id.site t.clock t.pending t.held
    pub bounds : p.bounds ≡ t.bounds
    pub heard : p.heard ≡ t.heard
    pub sent : p.sent ≡ t.sent

  -- the log names t in no record
  pub record IsNew (log : List (Record E)) (t : TxId) : Type 0 where
    pub prepared : prepared log t ≡ false
    pub committed : committed log t ≡ false
    pub aborted : aborted log t ≡ false
    pub taken : taken log t ≡ false
