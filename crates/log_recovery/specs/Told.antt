-- What was read of a log so far, record by record, and what it tells in the end.
use Rattle.std.specs.Prelude.{◌≡◌, ℕ, Bool, true, List, ◌∷◌, length, None}
use Rattle.site_vector.specs.declared.ids.PartId.{PartId}
use Rattle.crdt_core.specs.declared.record.Record.{Record}
use Rattle.crdt_core.specs.Fitting.{fits_record, unfit, unfit_under}
use Rattle.crdt_core.specs.Log.{ceiling, last_decided}
use Rattle.log_recovery.specs.declared.recovery.Rebuilt.{Rebuilt}
use Rattle.log_recovery.specs.declared.recovery.Recovery.{Recovery}
use Rattle.log_recovery.specs.Fates.{IsSeen, IsSound}
use Rattle.log_recovery.specs.Ledgers.{IsLedger}
use Rattle.log_recovery.specs.Recovered.{IsPending, IsCommitted, AreKnown}

module _ {E : Type 0} (sites parts : ℕ) (id : PartId) (top : ℕ) where
  -- the records of this log were read, and all of them fit the partition under this ceiling
  pub record HasRead (log : List (Record E)) (r : Recovery E) : Type 0 where
    pub fits : unfit_under sites parts id top log ≡ None
    pub seen : IsSeen log r.seen
    pub ledger : IsLedger log r.ledger
    pub width : length r.ledger.bounds ≡ sites
    pub sound : IsSound r.seen
    pub id_is : r.seen.id ≡ id
    pub sites_are : r.seen.sites ≡ sites
    pub parts_are : r.seen.parts ≡ parts
    pub top_is : r.seen.top ≡ top

  -- the answer whether a record fits after them; one that fits is read
  pub record ReadsNext (log : List (Record E)) (next : Record E) (new : Recovery E) (fits : Bool) : Type 0 where
    pub judged : fits ≡ fits_record sites parts id top log next
    pub read : fits ≡ true → HasRead (next ∷ log) new

module _ {E : Type 0} (sites parts : ℕ) (id : PartId) where
  -- its records fit the partition, and this is what they tell
  pub record IsToldBy (log : List (Record E)) (told : Rebuilt E) : Type 0 where
    pub fits : unfit sites parts id log ≡ None
    pub ceiling : told.ceiling ≡ ceiling log
    pub pending : IsPending sites log told.pending
    pub committed : IsCommitted sites log told.committed
    pub bounds : AreKnown sites id.site log told.bounds
    pub last : told.last_decided ≡ last_decided log
