-- What a log tells after a crash.
use Rattle.std.specs.Prelude.{◌≡◌, ◌≢◌, ◌⊎◌, ℕ, ◌+◌, ◌<◌, ◌≤◌, true, List, length}
use Rattle.site_vector.specs.declared.ids.TxId.{TxId}
use Rattle.site_vector.specs.Vector.{entry}
use Rattle.crdt_core.specs.declared.record.Part.{Part}
use Rattle.crdt_core.specs.declared.record.Record.{Record}
use Rattle.crdt_core.specs.Log.{ceiling, pending, prepare_time, holds, held_at, held_changes, logged_bound}
use Rattle.crdt_core.specs.Parts.{lists, AreParts}
use Rattle.prepared_table.specs.declared.entry.Entry.{Entry}
use Rattle.prepared_table.specs.Entries.{has_entry}
use Rattle.log_recovery.specs.Lists.{told, AreEntries, AreSingle, AreWideEntries, AreApart, AreWideParts}

module _ {E : Type 0} where
  -- the entries are what the log leaves pending, each once and as its record has it, with snapshots of this width
  pub record IsPending (sites : ℕ) (log : List (Record E)) (entries : List (Entry E)) : Type 0 where
    pub members : (u : TxId) → has_entry entries u ≡ pending log u
    pub exact : AreEntries (told log) entries
    pub single : AreSingle entries
    pub wide : AreWideEntries sites entries

  -- the parts are what the log holds, each once, with its commit vector of this width and its changes
  pub record IsCommitted (sites : ℕ) (log : List (Record E)) (parts : List (Part E)) : Type 0 where
    pub members : (u : TxId) → lists parts u ≡ holds log u
    pub exact : AreParts (held_at log) (held_changes log) parts
    pub apart : AreApart parts
    pub wide : AreWideParts sites parts

  -- the own bound: the lesser of the clock value and one below the least pending prepare time
  pub record IsOwnBound (now : ℕ) (log : List (Record E)) (b : ℕ) : Type 0 where
    pub most : b ≤ now
    pub below : (u : TxId) → pending log u ≡ true → b < prepare_time log u
    pub reached : (b ≡ now) ⊎ ((u : TxId) × (pending log u ≡ true) × (prepare_time log u ≡ b + 1))

  -- up to where all is known of each site: of others by their batches, of the own one at a clock that shows the ceiling
  pub record AreKnown (sites site : ℕ) (log : List (Record E)) (bounds : List ℕ) : Type 0 where
    pub width : length bounds ≡ sites
    pub others : (j : ℕ) → 1 ≤ j → j ≤ sites → j ≢ site → entry bounds j ≡ logged_bound log j
    pub own : IsOwnBound (ceiling log) log (entry bounds site)
