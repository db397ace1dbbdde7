-- A partition on its disk, as contracts see it, and when it stands for a partition's state.
use Rattle.std.specs.Prelude.{◌≡◌, ◌||◌, Bool, true, false, IsTrue}
use Rattle.disk_core.specs.States.{DiskState}
use Rattle.disk_core.specs.Moments.{EachImage}
use Rattle.gate_log.specs.declared.log.GateLog.{GateLog}
use Rattle.gate_log.specs.Logs.{disk_of, is_closed}
use Rattle.partition_log.specs.Codec.{Codec}
use Rattle.partition_log.specs.Logs.{HasRecords, HoldsFront}
use Rattle.crdt_core.specs.Log.{grown}
use Rattle.log_recovery.specs.Rising.{Rises}
use Rattle.world_model.specs.rules.Partition.{PartState}
use Rattle.partition_core.specs.Stands.{Stands}
use Rattle.partition_core.specs.Tables.{Tables}

pub record Durable (E D : Type 0) : Type 0 where
  -- what it keeps in memory
  pub tables : Tables E
  -- the log on its disk, as a log of byte strings
  pub gates : GateLog D
  -- it was told to crash, and not restarted since
  pub crashed : Bool

-- it crashed, or its disk failed
abbrev pub is_down : {E D : Type 0} → Durable E D → Bool
is_down t = t.crashed || is_closed t.gates

abbrev pub disk_in : {E D : Type 0} → (D → DiskState) → Durable E D → DiskState
disk_in state t = state (disk_of t.gates)

module _ {E D : Type 0} (codec : Codec E) (state : D → DiskState) (t : Durable E D) (p : PartState E) where
  -- it is up: its tables stand for the state, and the list of its log is the state's, in which leases rise
  pub record StandsUp : Type 0 where
    pub tables : Stands t.tables p
    pub log : HasRecords codec state t.gates p.log
    pub rises : Rises p.log

  -- it is down: every crash leaves on its disk what a restart may find
  pub record StandsDown : Type 0 where
    pub down : p.up ≡ false
    pub tells : IsTrue (disk_in state t).tells
    pub images : EachImage (HoldsFront codec p.log p.torn) (disk_in state t).story.now
    pub rises : Rises (grown p.log p.torn)

  abbrev pub StandsSo : Bool → Type 0
  StandsSo true = StandsDown
  StandsSo false = StandsUp

  abbrev pub StandsOn : Type 0
  StandsOn = StandsSo (is_down t)
