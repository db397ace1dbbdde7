-- What contracts tell of an open log in two areas.
use Rattle.std.specs.Prelude.{◌≡◌, ℕ, ◌<◌, ◌≤◌, Bool, false, List, ◌++◌, drop, IsTrue}
use Rattle.disk_core.specs.States.{DiskState}
use Rattle.gate_log.specs.Payloads.{walked}
use Rattle.twin_log.specs.Payloads.{walked_items}
use Rattle.twin_log.specs.Rests.{AtRest}
use Rattle.twin_log.specs.declared.spot.Spot.{Spot}
use Rattle.twin_log.specs.declared.log.TwinLog.{TwinLog}

-- its disk
abbrev pub disk_of : {D : Type 0} → TwinLog D → D
disk_of log = log.disk

-- where it stands on its disk
abbrev pub spot_of : {D : Type 0} → TwinLog D → Spot
spot_of log = log.spot

-- the place of its closed gate
abbrev pub gate_of : {D : Type 0} → TwinLog D → ℕ
gate_of log = log.spot.end

-- the start of its area
abbrev pub area_of : {D : Type 0} → TwinLog D → ℕ
area_of log = log.spot.start

abbrev pub format_of : {D : Type 0} → TwinLog D → ℕ
format_of log = log.spot.format

-- it takes no record until it is opened again
abbrev pub is_closed : {D : Type 0} → TwinLog D → Bool
is_closed log = log.closed

-- what was read at opening, each payload with its place
abbrev pub read_at_opening : {D : Type 0} → TwinLog D → List (ℕ × List ℕ)
read_at_opening log = let read = log.read in walked_items read.images read.image (drop read.image read.bytes.items) ++ walked read.records read.tail (drop read.tail read.bytes.items)

-- An open log over a disk that tells what it holds: a crash leaves it as a log of these payloads.
pub record IsOpen {D : Type 0} (state : D → DiskState) (log : TwinLog D) (payloads : List (List ℕ)) : Type 0 where
  pub is_open : is_closed log ≡ false
  pub at_rest : AtRest (state (disk_of log)) (spot_of log) payloads

-- The log has a place on its disk, and where it isn't closed and the disk tells what it holds, it is open with some payloads.
pub record IsReady {D : Type 0} (state : D → DiskState) (log : TwinLog D) : Type 0 where
  pub fits : gate_of log < (state (disk_of log)).room
  pub low : 25 ≤ area_of log
  pub order : area_of log ≤ gate_of log
  pub open_with : is_closed log ≡ false → IsTrue (state (disk_of log)).tells → (payloads : List (List ℕ)) × AtRest (state (disk_of log)) (spot_of log) payloads
