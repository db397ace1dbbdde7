-- A partition's log as a list of records, newest first, in the payloads of a log of byte strings.
use Rattle.std.specs.Prelude.{◌≡◌, ℕ, ◌+◌, Bool, true, List, [], ◌∷◌, ◌++◌, length, IsTrue}
use Rattle.std.specs.List.{list_all}
use Rattle.disk_core.specs.States.{DiskState, bytes_of}
use Rattle.disk_core.specs.Moments.{EachImage}
use Rattle.gate_log.specs.Log.{IsLog}
use Rattle.gate_log.specs.Logs.{IsOpen, read_at_opening}
use Rattle.gate_log.specs.Payloads.{placed}
use Rattle.gate_log.specs.declared.log.GateLog.{GateLog}
use Rattle.crdt_core.specs.declared.record.Record.{Record}
use Rattle.crdt_core.specs.Log.{MayFind}
use Rattle.partition_log.specs.Codec.{Codec}

module _ {E : Type 0} (codec : Codec E) where
  -- the payloads of the records, the oldest first
  abbrev pub payloads_of : List (Record E) → List (List ℕ)
  payloads_of [] = []
  payloads_of (r ∷ log) = payloads_of log ++ codec.bytes r ∷ []

  abbrev pub are_spelled : List (Record E) → Bool
  are_spelled log = list_all codec.spelled log

  -- the bytes are a log of these records
  pub record HoldsLog (bytes : List ℕ) (log : List (Record E)) : Type 0 where
    pub is_log : IsLog bytes (payloads_of log)
    pub spelled : are_spelled log ≡ true

  -- the bytes are the log before with the first of these records, or none, or all
  abbrev pub HoldsFront : List (Record E) → List (Record E) → List ℕ → Type 0
  HoldsFront log records bytes = (found : List (Record E)) × MayFind log records found × HoldsLog bytes found

  -- The disk tells what it holds, and every crash leaves a log before with the first of these records, or none, or all.
  pub record LeavesFront (log records : List (Record E)) (disk : DiskState) : Type 0 where
    pub tells : IsTrue disk.tells
    pub each : EachImage (HoldsFront log records) disk.story.now

  -- an open log over a disk that tells what it holds has these records
  pub record HasRecords {D : Type 0} (state : D → DiskState) (gates : GateLog D) (log : List (Record E)) : Type 0 where
    pub is_open : IsOpen state gates (payloads_of log)
    pub spelled : are_spelled log ≡ true

  -- how many bytes these records take: each its gate, its length and its payload
  abbrev pub size : List (Record E) → ℕ
  size [] = 0
  size (r ∷ records) = 5 + length (codec.bytes r) + size records

-- What was read at opening are the payloads of what the disk held, if it tells that, and the log is open with them.
pub record IsOpened {D : Type 0} (state : D → DiskState) (disk : DiskState) (gates : GateLog D) : Type 0 where
  pub payloads : List (List ℕ)
  pub read : read_at_opening gates ≡ placed 8 payloads
  pub holds : IsTrue disk.tells → IsLog (bytes_of disk) payloads × IsOpen state gates payloads
