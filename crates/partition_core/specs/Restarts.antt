-- What a restart of a partition on its disk owes.
use Rattle.std.specs.Prelude.{◌≡◌, ◌≢◌, ℕ, true, false, List, map, None, Some, Result, Ok, Err}
use Rattle.disk_core.specs.States.{DiskState, GoesOn, Fails}
use Rattle.gate_log.specs.Rest.{Lowers}
use Rattle.gate_log.specs.declared.error.OpenError.{OpenError}
use Rattle.gate_log.specs.declared.error.OpenError.TheVariants as open_error
use Rattle.partition_log.specs.Codec.{Codec}
use Rattle.partition_log.specs.Logs.{HoldsLog, HasRecords}
use Rattle.crdt_core.specs.declared.record.Record.{Record}
use Rattle.crdt_core.specs.Fitting.{unfit}
use Rattle.crdt_core.specs.KindsOf.{Kinds}
use Rattle.log_recovery.specs.Recovered.{AreKnown}
use Rattle.log_recovery.specs.Rising.{Rises}
use Rattle.site_vector.specs.declared.ids.PartId.{PartId}
use Rattle.site_vector.specs.declared.ids.TxId.{TxId}
use Rattle.prepared_table.specs.declared.entry.Entry.{Entry}
use Rattle.world_model.specs.rules.Event.{RestartCut}
use Rattle.world_model.specs.rules.Event as event
use Rattle.world_model.specs.rules.Partition.{PartState, Finds}
use Rattle.partition_core.specs.declared.restart.Restarted.{Restarted}
use Rattle.partition_core.specs.declared.restart.RestartError.{RestartError}
use Rattle.partition_core.specs.declared.restart.RestartError.TheVariants as restart
use Rattle.partition_core.specs.Durable.{Durable, StandsOn, disk_in, is_down}
use Rattle.partition_core.specs.Moments.{SteppedOn}
use Rattle.partition_core.specs.Recovered.{resumed}
use Rattle.partition_core.specs.Tables.{IsSame}
use Rattle.partition_core.specs.Unfit.{IsUnfitAt}

abbrev pub unopened : OpenError → RestartError
unopened open_error.Failed = restart.Disk
unopened (open_error.Damaged at) = restart.Damaged at
unopened open_error.NoMemory = restart.NoMemory

-- the transactions of these entries with their prepare times, in their order
abbrev pub IsListed : {E : Type 0} → List (Entry E) → List (TxId × ℕ) → Type 0
IsListed entries listed = listed ≡ map (λ x. (x.tx, x.time)) entries

-- it came up over a disk of these bytes: they are a log of records that all fit the partition, its open log has exactly these,
-- and it stands for the state in which that log leaves a partition
pub record ComesUpOver {E D : Type 0} (codec : Codec E) (state : D → DiskState) (sites parts : ℕ) (id : PartId) (bytes : List ℕ) (t : Durable E D) : Type 0 where
  pub log : List (Record E)
  pub holds : HoldsLog codec bytes log
  pub fits : unfit sites parts id log ≡ None
  pub has : HasRecords codec state t.gates log
  pub stands : Rises log → (b : List ℕ) × AreKnown sites id.site log b × StandsOn codec state t (resumed sites parts b log)

module _ {S E D : Type 0} (kinds : Kinds S E) (codec : Codec E) (state : D → DiskState) (old new : Durable E D) where
  -- at most three calls of the disk, and it is the same partition
  pub record ReadsAgain : Type 0 where
    pub same : IsSame old.tables new.tables
    pub goes_on : GoesOn (disk_in state old) (disk_in state new)
    pub left : Lowers 3 (disk_in state old).left (disk_in state new).left

  -- it is down, as after a crash, and what a restart may find stays
  pub record StaysDown : Type 0 where
    pub reads : ReadsAgain
    pub down : is_down new ≡ true
    pub step : (p : PartState E) → StandsOn codec state old p → SteppedOn kinds codec state old new p (λ e. e ≡ RestartCut)

  -- it is up, and no fuse of its disk has fired
  pub record ComesUp (r : Restarted) : Type 0 where
    pub reads : ReadsAgain
    pub up : is_down new ≡ false
    pub unfired : (disk_in state new).left ≢ Some 0
    pub step : (p : PartState E) → StandsOn codec state old p → SteppedOn kinds codec state old new p (λ e. e ≡ event.Restarted r.now r.bounds r.decided r.pending)

  -- a restart may find a log whose first record that doesn't fit lies there
  pub record FindsUnfit (p : PartState E) (at : ℕ) : Type 0 where
    pub log : List (Record E)
    pub found : Finds p log
    pub unfit : IsUnfitAt codec old.tables.sites old.tables.parts old.tables.id log at

  abbrev pub RestartsOn : Result Restarted RestartError → Type 0
  RestartsOn (Ok r) = ComesUp r
  RestartsOn (Err restart.Disk) = Fails (disk_in state old) (disk_in state new) × StaysDown
  RestartsOn (Err restart.NoMemory) = StaysDown
  -- a log that the partition's calls may have left is damaged only where a record doesn't fit
  RestartsOn (Err (restart.Damaged at)) = StaysDown × ((p : PartState E) → StandsOn codec state old p → FindsUnfit p at)
