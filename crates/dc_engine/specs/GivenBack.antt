-- Which disks a run gives back, and what they hold.
use Rattle.std.specs.Prelude.{◌≡◌, ℕ, ◌*◌, true, false, List, ◌++◌, length, get_or}
use Rattle.site_vector.specs.declared.ids.PartId.{PartId}
use Rattle.crdt_core.specs.declared.record.Record.{Record}
use Rattle.disk_core.specs.States.{DiskState}
use Rattle.disk_makers.specs.Makers.{Maker}
use Rattle.gate_log.specs.Rest.{AtRest}
use Rattle.partition_log.specs.Logs.{payloads_of, are_spelled}
use Rattle.world_model.specs.commands.Cluster.{sites_of, parts_of}
use Rattle.world_model.specs.rules.Event.{Entry}
use Rattle.world_model.specs.events.Logs.{IsLogOf}
use Rattle.world_model.specs.lines.Pending.{is_down}
use Rattle.world_model.specs.lines.Places.{IsPlace}
use Rattle.world_model.specs.commands.Run.{Run}
use Rattle.world_model.specs.commands.ScriptCalls.{calls_of}
use Rattle.world_model.specs.rules.World.{plan_of}
use Rattle.site_partitions.specs.Held.{index_of}
use Rattle.cluster.specs.Rooms.{FindRooms}
use Rattle.dc_engine.specs.Makers.{first_place, with_places}
use Rattle.dc_engine.specs.ObjectKinds.{Effect, codec, kinds}

-- the disk holds a log that these events of the world leave at p, and all of it is durable
pub record HoldsLogOf (sites parts : ℕ) (events : List (Entry Effect)) (p : PartId) (disk : DiskState) : Type 0 where
  pub log : List (Record Effect)
  pub left : IsLogOf (plan_of sites parts events) events p log
  pub end : ℕ
  pub at_rest : AtRest disk end (payloads_of codec log)
  pub spelled : are_spelled codec log ≡ true

-- this is the room of the disk of a partition, one of these
abbrev pub IsRoomIn : {D : Type 0} → (D → DiskState) → ℕ → List D → PartId → ℕ → Type 0
IsRoomIn {D} state parts disks p n = (other : D) → (state (get_or disks (index_of parts p) other)).room ≡ n

-- What is given back at the end of a run that shows these events: the disk of each partition, site by site. Each that is up holds
-- the log that the events leave there, and where an event found no room on one, there was none.
pub record GivenBack {D : Type 0} (state : D → DiskState) (run : Run) (events : List (Entry Effect)) (old new : Maker D) : Type 0 where
  pub disks : List D
  pub all : length disks ≡ sites_of run * parts_of run
  pub given : new.given ≡ old.given ++ with_places (parts_of run) first_place disks
  pub logs : (p : PartId) → IsPlace (sites_of run) (parts_of run) p → is_down (calls_of run) p ≡ false → (other : D) → HoldsLogOf (sites_of run) (parts_of run) events p (state (get_or disks (index_of (parts_of run) p) other))
  pub rooms : FindRooms kinds codec (sites_of run) (parts_of run) (IsRoomIn state (parts_of run) disks) events
