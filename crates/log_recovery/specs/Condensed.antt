-- A log without what no restart needs.
use Rattle.std.specs.Prelude.{◌≡◌, ℕ, ◌+◌, ◌&&◌, Bool, true, false, not, if◌then◌else◌, List, [], ◌∷◌, Option, Some, None, ⊤}
use Rattle.site_vector.specs.declared.ids.TxId.{TxId}
use Rattle.crdt_core.specs.declared.record.Upd.{Upd}
use Rattle.crdt_core.specs.declared.record.Record.{Record}
use Rattle.crdt_core.specs.declared.record.Record.TheVariants.{Lease, Prepare, Decide, Finish, Abort, Batch}
use Rattle.crdt_core.specs.Log.{prepared, prepare_time, prepared_lead, prepared_snapshot, prepared_changes, aborted, held_at, held_changes, names_tx}

module _ {E : Type 0} where
  -- it was prepared and aborted
  abbrev pub is_dropped : List (Record E) → TxId → Bool
  is_dropped log t = prepared log t && aborted log t

  -- The records, newest first, without the leases before the last one, and without the prepares and the aborts of these transactions. The first argument tells whether a lease was kept already.
  abbrev pub kept : Bool → (TxId → Bool) → List (Record E) → List (Record E)
  kept leased dropped [] = []
  kept leased dropped (Lease n ∷ log) = if leased then kept true dropped log else Lease n ∷ kept true dropped log
  kept leased dropped (Prepare t l n s w ∷ log) = if dropped t then kept leased dropped log else Prepare t l n s w ∷ kept leased dropped log
  kept leased dropped (Decide t c ∷ log) = Decide t c ∷ kept leased dropped log
  kept leased dropped (Finish t c ∷ log) = Finish t c ∷ kept leased dropped log
  kept leased dropped (Abort t ∷ log) = if dropped t then kept leased dropped log else Abort t ∷ kept leased dropped log
  kept leased dropped (Batch m ∷ log) = Batch m ∷ kept leased dropped log

  abbrev pub aborted_by : Record E → Option TxId
  aborted_by (Abort t) = Some t
  aborted_by other = None

  abbrev pub prepared_by : Record E → Option TxId
  prepared_by (Prepare t l n s w) = Some t
  prepared_by other = None

  abbrev pub is_lease : Record E → Bool
  is_lease (Lease n) = true
  is_lease other = false

  abbrev pub leases_in : List (Record E) → ℕ
  leases_in [] = 0
  leases_in (r ∷ rs) = if is_lease r then 1 + leases_in rs else leases_in rs

  -- whether a record stays, behind which a lease was kept or not
  abbrev pub stays : Bool → (TxId → Bool) → Record E → Bool
  stays leased dropped (Lease n) = not leased
  stays leased dropped (Prepare t l n s w) = not (dropped t)
  stays leased dropped (Abort t) = not (dropped t)
  stays leased dropped other = true

  -- the log without the leases before its last one, and without each prepare that has an abort, and that abort
  abbrev pub condensed : List (Record E) → List (Record E)
  condensed log = kept false (is_dropped log) log

  -- none of these records names a transaction that was dropped
  abbrev pub NamesNone : (TxId → Bool) → List (Record E) → Type 0
  NamesNone dropped [] = ⊤
  NamesNone dropped (r ∷ rs) = ((u : TxId) → dropped u ≡ true → names_tx r u ≡ false) × NamesNone dropped rs

  -- what a log tells of a vote: its time, its lead, its snapshot and what it changes
  abbrev pub told_vote : List (Record E) → TxId → ℕ × ℕ × List ℕ × List (Upd E)
  told_vote log u = (prepare_time log u, prepared_lead log u, prepared_snapshot log u, prepared_changes log u)

  -- and of a part that is held: its commit vector, and what it changed
  abbrev pub told_part : List (Record E) → TxId → List ℕ × List (Upd E)
  told_part log u = (held_at log u, held_changes log u)
