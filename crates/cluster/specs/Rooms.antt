-- Where a call found no room on its partition's disk: what it would have written doesn't fit behind the log that stood there.
use Rattle.std.specs.Prelude.{◌≡◌, ◌<◌, ℕ, ◌+◌, List, [], ◌∷◌, ⊤}
use Rattle.site_vector.specs.declared.ids.PartId.{PartId}
use Rattle.crdt_core.specs.KindsOf.{Kinds}
use Rattle.disk_core.specs.States.{DiskState}
use Rattle.gate_log.specs.Log.{end_of}
use Rattle.partition_log.specs.Codec.{Codec}
use Rattle.partition_log.specs.Logs.{payloads_of, size}
use Rattle.partition_core.specs.Durable.{Durable}
use Rattle.world_model.specs.lines.Places.{IsPlace}
use Rattle.world_model.specs.rules.Asking.{asked_by}
use Rattle.world_model.specs.rules.Event.{Ask, Event, Entry, Refused, HasNoRoom}
use Rattle.world_model.specs.rules.Partition.{PartState, MayDo, records}
use Rattle.world_model.specs.rules.World.{IsWorldRun}
use Rattle.site_partitions.specs.Held.{Held}
use Rattle.site_partitions.specs.Reaches.{Types}
use Rattle.cluster.specs.Same.{room_at}

module _ {S E : Type 0} (kinds : Kinds S E) (codec : Codec E) (sites parts : ℕ) (IsRoom : PartId → ℕ → Type 0) where
  -- The disk of the place has this room; what was asked could be done as the run left the partition; and its log, with the records of
  -- that and the closed gate, passes the room.
  pub record PassesRoom (run : List (Entry E)) (at : PartId) (asked : Ask E) (room : ℕ) : Type 0 where
    pub place : IsPlace sites parts at
    pub is : IsRoom at room
    pub state : PartId → PartState E
    pub is_run : IsWorldRun kinds sites parts run state
    pub what : Event E
    pub asks : asked_by what ≡ asked
    pub may : MayDo kinds sites parts at (state at) what
    pub past : room < end_of (payloads_of codec (state at).log) + size codec (records (state at) what) + 1

  -- so it was, where an event says so
  abbrev pub FindsRoom : List (Entry E) → PartId → Event E → Type 0
  FindsRoom run at (Refused asked (HasNoRoom n)) = PassesRoom run at asked n
  FindsRoom run at other = ⊤

  -- and of each event of a run
  abbrev pub FindRooms : List (Entry E) → Type 0
  FindRooms [] = ⊤
  FindRooms (e ∷ run) = FindsRoom run e.at e.event × FindRooms run

-- this is the room of the disk of the partition at this place
abbrev pub IsRoomAt : {E D : Type 0} → (D → DiskState) → Held E D → PartId → ℕ → Type 0
IsRoomAt {E} {D} state c p n = (other : Durable E D) → room_at state c p other ≡ n

-- by the disks of a cluster
abbrev pub FoundRooms : {S E D : Type 0} → Types S E D → Held E D → List (Entry E) → Type 0
FoundRooms w c run = FindRooms w.kinds w.codec c.sites c.parts (IsRoomAt w.state c) run
