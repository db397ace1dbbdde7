-- Lists of pending transactions and of parts, as a log tells them.
use Rattle.std.specs.Prelude.{◌≡◌, ℕ, ◌-◌, min, false, List, [], ◌∷◌, length, slice_get, Option, None, Some, ⊤}
use Rattle.site_vector.specs.declared.ids.TxId.{TxId}
use Rattle.crdt_core.specs.declared.record.Upd.{Upd}
use Rattle.crdt_core.specs.declared.record.Part.{Part}
use Rattle.crdt_core.specs.declared.record.Record.{Record}
use Rattle.crdt_core.specs.Log.{prepare_time, prepared_lead, prepared_snapshot, prepared_changes}
use Rattle.crdt_core.specs.Parts.{lists}
use Rattle.prepared_table.specs.declared.entry.Entry.{Entry}
use Rattle.prepared_table.specs.Entries.{has_entry}

module _ {E : Type 0} where
  -- what a log tells of a prepared transaction: its time, the number of its lead, its snapshot, and its changes
  abbrev pub told : List (Record E) → TxId → ℕ × ℕ × List ℕ × List (Upd E)
  told log t = (prepare_time log t, prepared_lead log t, prepared_snapshot log t, prepared_changes log t)

  -- each entry is as this tells it
  abbrev pub AreEntries : (TxId → ℕ × ℕ × List ℕ × List (Upd E)) → List (Entry E) → Type 0
  AreEntries tells [] = ⊤
  AreEntries tells (x ∷ xs) = ((x.time, x.lead, x.s, x.updates) ≡ tells x.tx) × AreEntries tells xs

  -- no transaction is pending twice
  abbrev pub AreSingle : List (Entry E) → Type 0
  AreSingle [] = ⊤
  AreSingle (x ∷ xs) = (has_entry xs x.tx ≡ false) × AreSingle xs

  -- each snapshot has an entry for each site
  abbrev pub AreWideEntries : ℕ → List (Entry E) → Type 0
  AreWideEntries sites [] = ⊤
  AreWideEntries sites (x ∷ xs) = (length x.s ≡ sites) × AreWideEntries sites xs

  -- no two parts are of one transaction
  abbrev pub AreApart : List (Part E) → Type 0
  AreApart [] = ⊤
  AreApart (x ∷ xs) = (lists xs x.tx ≡ false) × AreApart xs

  -- each commit vector has an entry for each site
  abbrev pub AreWideParts : ℕ → List (Part E) → Type 0
  AreWideParts sites [] = ⊤
  AreWideParts sites (x ∷ xs) = (length x.c ≡ sites) × AreWideParts sites xs

  -- the least of a time and of what is one below the prepare times
  abbrev pub least_below : ℕ → List (Entry E) → ℕ
  least_below n [] = n
  least_below n (x ∷ xs) = least_below (min n (x.time - 1)) xs

  -- those that are still there
  abbrev pub still_there : List (Option (Entry E)) → List (Entry E)
  still_there [] = []
  still_there (None ∷ slots) = still_there slots
  still_there (Some x ∷ slots) = x ∷ still_there slots

  -- each entry that is still there is found by its transaction, and what is found is there
  pub record ArePlaced (places : TxId → Option ℕ) (slots : List (Option (Entry E))) : Type 0 where
    pub held : (n : ℕ) (x : Entry E) → slice_get slots n ≡ Some (Some x) → places x.tx ≡ Some n
    pub found : (u : TxId) (n : ℕ) → places u ≡ Some n → (x : Entry E) × (slice_get slots n ≡ Some (Some x)) × (x.tx ≡ u)
