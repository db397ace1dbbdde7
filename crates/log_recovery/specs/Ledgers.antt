-- What was read of a log so far, and what may be read next.
use Rattle.std.specs.Prelude.{◌≡◌, ℕ, ◌≤◌, max, true, false, List, [], ◌∷◌, ◌++◌, length, None, ⊤}
use Rattle.site_vector.specs.declared.ids.PartId.{PartId}
use Rattle.site_vector.specs.declared.ids.TxId.{TxId}
use Rattle.site_vector.specs.Vector.{entry, replaced}
use Rattle.crdt_core.specs.declared.record.Part.{Part}
use Rattle.crdt_core.specs.declared.record.Record.{Record}
use Rattle.crdt_core.specs.declared.record.Record.TheVariants.{Lease, Prepare, Decide, Finish, Abort, Batch}
use Rattle.crdt_core.specs.Fitting.{unfit_under}
use Rattle.crdt_core.specs.Log.{ceiling, pending, holds, held_at, held_changes, logged_bound, last_decided}
use Rattle.crdt_core.specs.Parts.{lists, AreParts}
use Rattle.prepared_table.specs.declared.entry.Entry.{Entry}
use Rattle.prepared_table.specs.Entries.{has_entry, IsTakenOut}
use Rattle.log_recovery.specs.declared.ledger.Ledger.{Ledger}
use Rattle.log_recovery.specs.Lists.{told, AreEntries, AreSingle, AreApart}

module _ {E : Type 0} where
  -- the entries are what the log leaves pending, each once
  pub record ArePending (log : List (Record E)) (entries : List (Entry E)) : Type 0 where
    pub members : (u : TxId) → has_entry entries u ≡ pending log u
    pub exact : AreEntries (told log) entries
    pub single : AreSingle entries

  -- the parts are what the log holds, each once
  pub record AreHeld (log : List (Record E)) (parts : List (Part E)) : Type 0 where
    pub members : (u : TxId) → lists parts u ≡ holds log u
    pub exact : AreParts (held_at log) (held_changes log) parts
    pub apart : AreApart parts

  -- how far the batches of each site go
  abbrev pub AreBounds : List (Record E) → List ℕ → Type 0
  AreBounds log bounds = (j : ℕ) → 1 ≤ j → j ≤ length bounds → entry bounds j ≡ logged_bound log j

  -- what the ledger has is what the log tells
  pub record IsLedger (log : List (Record E)) (l : Ledger E) : Type 0 where
    pub ceiling : l.ceiling ≡ ceiling log
    pub waiting : ArePending log l.waiting
    pub committed : AreHeld log l.committed
    pub bounds : AreBounds log l.bounds
    pub last_decided : l.last_decided ≡ last_decided log

  -- the record is read: where the log with it fits a partition, under any ceiling, the ledger is what that log tells
  abbrev pub Reads : Ledger E → Record E → Ledger E → Type 0
  Reads old r new = (sites parts : ℕ) (id : PartId) (top : ℕ) (log : List (Record E)) → IsLedger log old → unfit_under sites parts id top (r ∷ log) ≡ None → IsLedger (r ∷ log) new

  -- a record that may be read next: what ends is waiting, what is prepared isn't, and a batch is of one of the sites
  abbrev pub IsNext : Ledger E → Record E → Type 0
  IsNext l (Lease n) = ⊤
  IsNext l (Prepare t lead n s w) = has_entry l.waiting t ≡ false
  IsNext l (Decide t c) = has_entry l.waiting t ≡ true
  IsNext l (Finish t c) = has_entry l.waiting t ≡ true
  IsNext l (Abort t) = has_entry l.waiting t ≡ true
  IsNext l (Batch m) = (1 ≤ m.from) × (m.from ≤ length l.bounds)

  -- the rest of the ledger is as before
  pub record IsSame (old new : Ledger E) : Type 0 where
    pub ceiling : new.ceiling ≡ old.ceiling
    pub bounds : new.bounds ≡ old.bounds
    pub last_decided : new.last_decided ≡ old.last_decided

  -- it waits no more
  pub record Aborts (t : TxId) (waiting left : List (Entry E)) : Type 0 where
    pub entry : Entry E
    pub same : entry.tx ≡ t
    pub taken : IsTakenOut entry waiting left

  -- what was waiting has become the last part, with this commit vector
  pub record Commits (t : TxId) (c : List ℕ) (waiting left : List (Entry E)) (old new : List (Part E)) : Type 0 where
    pub entry : Entry E
    pub same : entry.tx ≡ t
    pub taken : IsTakenOut entry waiting left
    pub put : new ≡ old ++ record { tx = t; c = c; updates = entry.updates } ∷ []

-- the bounds with that of a site at least this
abbrev pub raised : List ℕ → ℕ → ℕ → List ℕ
raised bounds site hi = replaced bounds site (max hi (entry bounds site))
