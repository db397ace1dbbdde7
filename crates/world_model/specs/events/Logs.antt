-- The log that a run leaves at a partition.
use Rattle.std.specs.Prelude.{◌≡◌, ◌≢◌, ◌⊎◌, ℕ, ◌+◌, ◌^◌, min, leb, ltb, if◌then◌else◌, List, [], ◌∷◌, ◌++◌, filter, Option}
use Rattle.site_vector.specs.declared.ids.PartId.{PartId}
use Rattle.site_vector.specs.declared.ids.TxId.{TxId}
use Rattle.site_vector.specs.Vector.{entry}
use Rattle.crdt_core.specs.declared.record.Part.{Part}
use Rattle.crdt_core.specs.declared.record.Message.{Message}
use Rattle.crdt_core.specs.declared.record.Record.{Record}
use Rattle.crdt_core.specs.declared.record.Record.TheVariants.{Lease, Prepare, Decide, Finish, Abort, Batch}
use Rattle.crdt_core.specs.Log.{ceiling, pending, last_decided, logged_bound, grown, MayFind}
use Rattle.world_model.specs.rules.Event.{Event, Ticked, Began, Prepared, Decided, Finished, Aborted, Took, Restarted, Cut, Entry}
use Rattle.world_model.specs.rules.Partition.{PartState, Finds, IsOwnBound, AreTimed}
use Rattle.world_model.specs.lines.Places.{IsOther}
use Rattle.world_model.specs.lines.Listed.{names_pending, IsBefore, AreInOrder}
use Rattle.world_model.specs.rules.Plan.{Plan, commit_vector}
use Rattle.world_model.specs.events.Bounds.{bound_shown}

module _ {E : Type 0} where
  -- what a restart reads from a log
  pub record IsReadFrom (sites : ℕ) (p : PartId) (log : List (Record E)) (now : ℕ) (bounds : List ℕ) (named : Option TxId) (listed : List (TxId × ℕ)) : Type 0 where
    pub clock : now ≡ ceiling log
    pub others : (j : ℕ) → IsOther sites p.site j → entry bounds j ≡ logged_bound log j
    pub own : IsOwnBound now log (entry bounds p.site)
    pub last : named ≡ last_decided log
    pub members : (t : TxId) → names_pending listed t ≡ pending log t
    pub timed : AreTimed log listed
    pub order : AreInOrder IsBefore listed

  -- a lease for a time that none reaches yet: of 1,000 ticks more, up to the end of time
  abbrev pub lease_at : List (Record E) → ℕ → List (Record E)
  lease_at log n = if leb n (ceiling log) then [] else Lease (min (n + 1000) (2 ^ 62)) ∷ []

  -- the record of what a message brings, none where that is nothing
  abbrev pub taken_of : PartId → Message E → ℕ → List (Part E) → List (Record E)
  taken_of p m logged_bound [] = []
  taken_of p m logged_bound (x ∷ xs) = Batch (record { from = m.from; to = p.site; part = p.part; lo = logged_bound; hi = m.hi; parts = x ∷ xs }) ∷ []

  -- the records of an event: each transaction has its lead, its snapshot and its updates there, and the commit vector that its votes give
  abbrev pub records_of : Plan E → List (Entry E) → PartId → List (Record E) → Event E → List (Record E)
  records_of plan run p log (Ticked r n) = lease_at log n
  records_of plan run p log (Began who dep t s) = lease_at log t.time
  records_of plan run p log (Prepared t s l w n) = lease_at log n ++ Prepare t (plan.lead t).part n (plan.snapshot t) (plan.updates t p) ∷ []
  records_of plan run p log (Decided t c) = if pending log t then Decide t (commit_vector plan run t) ∷ [] else []
  records_of plan run p log (Finished t c) = if pending log t then Finish t (commit_vector plan run t) ∷ [] else []
  records_of plan run p log (Aborted t own) = Abort t ∷ []
  records_of plan run p log (Took number m) = taken_of p m (bound_shown run p m.from) (filter (λ x. ltb (bound_shown run p m.from) (entry x.c m.from)) m.parts)
  records_of plan run p log other = []

  -- the log after an event: with its records, or with the first of them where it was cut off
  abbrev pub IsLogAfter : Plan E → List (Entry E) → PartId → List (Record E) → Event E → List (Record E) → Type 0
  IsLogAfter plan run p old (Cut what) log = MayFind old (records_of plan run p old what) log
  IsLogAfter plan run p old (Restarted n b named listed) log = (log ≡ old) × IsReadFrom plan.sites p old n b named listed
  IsLogAfter plan run p old event log = log ≡ grown old (records_of plan run p old event)

  -- the log that a run leaves at p
  abbrev pub IsLogOf : Plan E → List (Entry E) → PartId → List (Record E) → Type 0
  IsLogOf plan [] p log = log ≡ []
  IsLogOf plan (e ∷ run) p log = (old : List (Record E)) × IsLogOf plan run p old × (((e.at ≡ p) × IsLogAfter plan run p old e.event log) ⊎ ((e.at ≢ p) × (log ≡ old)))

  -- whatever a restart of a partition may find is a log that the run leaves there
  abbrev pub LeavesLogs : Plan E → List (Entry E) → (PartId → PartState E) → Type 0
  LeavesLogs plan run parts = (p : PartId) (log : List (Record E)) → Finds (parts p) log → IsLogOf plan run p log
