-- The records of a partition's log, newest first, and what they tell.
use Rattle.std.specs.Prelude.{◌≡◌, ◌⊎◌, ℕ, ◌+◌, ◌^◌, max, min, leb, Bool, false, not, ◌&&◌, ◌||◌, ◌==◌, if◌then◌else◌, List, [], ◌∷◌, Option, None, Some}
use Rattle.site_vector.specs.declared.ids.TxId.{TxId}
use Rattle.site_vector.specs.Ids.{same_tx}
use Rattle.crdt_core.specs.declared.record.Upd.{Upd}
use Rattle.crdt_core.specs.declared.record.Record.{Record}
use Rattle.crdt_core.specs.declared.record.Record.TheVariants.{Lease, Prepare, Decide, Finish, Abort, Batch}
use Rattle.crdt_core.specs.Parts.{lists, vector_in, changes_in}

-- the last time that a clock may show
abbrev pub end_of_time : ℕ
end_of_time = 2 ^ 62

module _ {E : Type 0} where
  -- the ceiling of the last Lease
  abbrev pub ceiling : List (Record E) → ℕ
  ceiling [] = 0
  ceiling (Lease n ∷ log) = n
  ceiling (Prepare u l n s w ∷ log) = ceiling log
  ceiling (Decide u c ∷ log) = ceiling log
  ceiling (Finish u c ∷ log) = ceiling log
  ceiling (Abort u ∷ log) = ceiling log
  ceiling (Batch m ∷ log) = ceiling log

  abbrev pub prepared : List (Record E) → TxId → Bool
  prepared [] t = false
  prepared (Lease n ∷ log) t = prepared log t
  prepared (Prepare u l n s w ∷ log) t = same_tx u t || prepared log t
  prepared (Decide u c ∷ log) t = prepared log t
  prepared (Finish u c ∷ log) t = prepared log t
  prepared (Abort u ∷ log) t = prepared log t
  prepared (Batch m ∷ log) t = prepared log t

  -- its prepare time
  abbrev pub prepare_time : List (Record E) → TxId → ℕ
  prepare_time [] t = 0
  prepare_time (Lease n ∷ log) t = prepare_time log t
  prepare_time (Prepare u l n s w ∷ log) t = if same_tx u t then n else prepare_time log t
  prepare_time (Decide u c ∷ log) t = prepare_time log t
  prepare_time (Finish u c ∷ log) t = prepare_time log t
  prepare_time (Abort u ∷ log) t = prepare_time log t
  prepare_time (Batch m ∷ log) t = prepare_time log t

  -- what it changes here
  abbrev pub prepared_changes : List (Record E) → TxId → List (Upd E)
  prepared_changes [] t = []
  prepared_changes (Lease n ∷ log) t = prepared_changes log t
  prepared_changes (Prepare u l n s w ∷ log) t = if same_tx u t then w else prepared_changes log t
  prepared_changes (Decide u c ∷ log) t = prepared_changes log t
  prepared_changes (Finish u c ∷ log) t = prepared_changes log t
  prepared_changes (Abort u ∷ log) t = prepared_changes log t
  prepared_changes (Batch m ∷ log) t = prepared_changes log t

  -- the lead of t, as its Prepare has it
  abbrev pub prepared_lead : List (Record E) → TxId → ℕ
  prepared_lead [] t = 0
  prepared_lead (Lease n ∷ log) t = prepared_lead log t
  prepared_lead (Prepare u l n s w ∷ log) t = if same_tx u t then l else prepared_lead log t
  prepared_lead (Decide u c ∷ log) t = prepared_lead log t
  prepared_lead (Finish u c ∷ log) t = prepared_lead log t
  prepared_lead (Abort u ∷ log) t = prepared_lead log t
  prepared_lead (Batch m ∷ log) t = prepared_lead log t

  -- the snapshot of t, as its Prepare has it
  abbrev pub prepared_snapshot : List (Record E) → TxId → List ℕ
  prepared_snapshot [] t = []
  prepared_snapshot (Lease n ∷ log) t = prepared_snapshot log t
  prepared_snapshot (Prepare u l n s w ∷ log) t = if same_tx u t then s else prepared_snapshot log t
  prepared_snapshot (Decide u c ∷ log) t = prepared_snapshot log t
  prepared_snapshot (Finish u c ∷ log) t = prepared_snapshot log t
  prepared_snapshot (Abort u ∷ log) t = prepared_snapshot log t
  prepared_snapshot (Batch m ∷ log) t = prepared_snapshot log t

  abbrev pub decided : List (Record E) → TxId → Bool
  decided [] t = false
  decided (Lease n ∷ log) t = decided log t
  decided (Prepare u l n s w ∷ log) t = decided log t
  decided (Decide u c ∷ log) t = same_tx u t || decided log t
  decided (Finish u c ∷ log) t = decided log t
  decided (Abort u ∷ log) t = decided log t
  decided (Batch m ∷ log) t = decided log t

  -- decided or finished
  abbrev pub committed : List (Record E) → TxId → Bool
  committed [] t = false
  committed (Lease n ∷ log) t = committed log t
  committed (Prepare u l n s w ∷ log) t = committed log t
  committed (Decide u c ∷ log) t = same_tx u t || committed log t
  committed (Finish u c ∷ log) t = same_tx u t || committed log t
  committed (Abort u ∷ log) t = committed log t
  committed (Batch m ∷ log) t = committed log t

  -- its commit vector, as the record of its end has it
  abbrev pub committed_at : List (Record E) → TxId → List ℕ
  committed_at [] t = []
  committed_at (Lease n ∷ log) t = committed_at log t
  committed_at (Prepare u l n s w ∷ log) t = committed_at log t
  committed_at (Decide u c ∷ log) t = if same_tx u t then c else committed_at log t
  committed_at (Finish u c ∷ log) t = if same_tx u t then c else committed_at log t
  committed_at (Abort u ∷ log) t = committed_at log t
  committed_at (Batch m ∷ log) t = committed_at log t

  abbrev pub aborted : List (Record E) → TxId → Bool
  aborted [] t = false
  aborted (Lease n ∷ log) t = aborted log t
  aborted (Prepare u l n s w ∷ log) t = aborted log t
  aborted (Decide u c ∷ log) t = aborted log t
  aborted (Finish u c ∷ log) t = aborted log t
  aborted (Abort u ∷ log) t = same_tx u t || aborted log t
  aborted (Batch m ∷ log) t = aborted log t

  -- prepared and not ended
  abbrev pub pending : List (Record E) → TxId → Bool
  pending log t = prepared log t && not (committed log t || aborted log t)

  abbrev pub last_decided : List (Record E) → Option TxId
  last_decided [] = None
  last_decided (Lease n ∷ log) = last_decided log
  last_decided (Prepare u l n s w ∷ log) = last_decided log
  last_decided (Decide u c ∷ log) = Some u
  last_decided (Finish u c ∷ log) = last_decided log
  last_decided (Abort u ∷ log) = last_decided log
  last_decided (Batch m ∷ log) = last_decided log

  -- brought by a message from another site
  abbrev pub taken : List (Record E) → TxId → Bool
  taken [] t = false
  taken (Lease n ∷ log) t = taken log t
  taken (Prepare u l n s w ∷ log) t = taken log t
  taken (Decide u c ∷ log) t = taken log t
  taken (Finish u c ∷ log) t = taken log t
  taken (Abort u ∷ log) t = taken log t
  taken (Batch m ∷ log) t = lists m.parts t || taken log t

  abbrev pub taken_at : List (Record E) → TxId → List ℕ
  taken_at [] t = []
  taken_at (Lease n ∷ log) t = taken_at log t
  taken_at (Prepare u l n s w ∷ log) t = taken_at log t
  taken_at (Decide u c ∷ log) t = taken_at log t
  taken_at (Finish u c ∷ log) t = taken_at log t
  taken_at (Abort u ∷ log) t = taken_at log t
  taken_at (Batch m ∷ log) t = if lists m.parts t then vector_in m.parts t else taken_at log t

  abbrev pub taken_changes : List (Record E) → TxId → List (Upd E)
  taken_changes [] t = []
  taken_changes (Lease n ∷ log) t = taken_changes log t
  taken_changes (Prepare u l n s w ∷ log) t = taken_changes log t
  taken_changes (Decide u c ∷ log) t = taken_changes log t
  taken_changes (Finish u c ∷ log) t = taken_changes log t
  taken_changes (Abort u ∷ log) t = taken_changes log t
  taken_changes (Batch m ∷ log) t = if lists m.parts t then changes_in m.parts t else taken_changes log t

  -- up to where the batches of a site go: the greatest `hi` of its messages that brought something
  abbrev pub logged_bound : List (Record E) → ℕ → ℕ
  logged_bound [] j = 0
  logged_bound (Lease n ∷ log) j = logged_bound log j
  logged_bound (Prepare u l n s w ∷ log) j = logged_bound log j
  logged_bound (Decide u c ∷ log) j = logged_bound log j
  logged_bound (Finish u c ∷ log) j = logged_bound log j
  logged_bound (Abort u ∷ log) j = logged_bound log j
  logged_bound (Batch m ∷ log) j = if m.from == j then max m.hi (logged_bound log j) else logged_bound log j

  -- committed here, or brought from another site
  abbrev pub holds : List (Record E) → TxId → Bool
  holds log t = committed log t || taken log t

  -- the commit vector of what is held
  abbrev pub held_at : List (Record E) → TxId → List ℕ
  held_at log t = if committed log t then committed_at log t else taken_at log t

  -- what it changed here
  abbrev pub held_changes : List (Record E) → TxId → List (Upd E)
  held_changes log t = if committed log t then prepared_changes log t else taken_changes log t

  abbrev pub names_tx : Record E → TxId → Bool
  names_tx (Lease n) t = false
  names_tx (Prepare u l n s w) t = same_tx u t
  names_tx (Decide u c) t = same_tx u t
  names_tx (Finish u c) t = same_tx u t
  names_tx (Abort u) t = same_tx u t
  names_tx (Batch m) t = lists m.parts t

  -- a record of the log names t
  abbrev pub is_named_in : List (Record E) → TxId → Bool
  is_named_in [] t = false
  is_named_in (r ∷ log) t = names_tx r t || is_named_in log t

  -- a log with these records added, oldest first
  abbrev pub grown : List (Record E) → List (Record E) → List (Record E)
  grown log [] = log
  grown log (r ∷ rs) = grown (r ∷ log) rs

  -- the lease that is written before a clock shows n
  abbrev pub lease_for : List (Record E) → ℕ → List (Record E)
  lease_for log n = if leb n (ceiling log) then [] else Lease (min (n + 1000) end_of_time) ∷ []

  -- what a restart may find of a log and the records of a call that was cut off: the log with the first of them, or none, or all
  abbrev pub MayFind : List (Record E) → List (Record E) → List (Record E) → Type 0
  MayFind log [] image = image ≡ log
  MayFind log (r ∷ rs) image = (image ≡ log) ⊎ MayFind (r ∷ log) rs image
