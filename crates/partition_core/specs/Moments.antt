-- What a call of a partition on its disk owes: whatever it stood for took a step, at each moment of which a crash leaves what a
-- restart may find.
use Rattle.std.specs.Prelude.{◌≡◌, ℕ, ◌+◌, ◌*◌, ◌<◌, ◌≤◌, Bool, true, false, if◌then◌else◌, List, length, Result, Ok, Err}
use Rattle.disk_core.specs.States.{DiskState, GoesOn, Fails, fewer, Spared}
use Rattle.disk_core.specs.Moments.{AtEachMoment}
use Rattle.gate_log.specs.Logs.{gate_of}
use Rattle.gate_log.specs.Rest.{Lowers}
use Rattle.partition_log.specs.Codec.{Codec}
use Rattle.partition_log.specs.Logs.{HoldsFront, size}
use Rattle.crdt_core.specs.declared.record.Record.{Record}
use Rattle.crdt_core.specs.KindsOf.{Kinds}
use Rattle.world_model.specs.rules.Event.{Ask, Event, Refused, Crashed, Cut, attempt}
use Rattle.world_model.specs.rules.Event as event
use Rattle.world_model.specs.rules.Partition.{PartState, PartStep, MayDo, records}
use Rattle.partition_core.specs.declared.durable.DurableError.{DurableError}
use Rattle.partition_core.specs.declared.durable.DurableError.TheVariants as call
use Rattle.partition_core.specs.Answers.{cause}
use Rattle.partition_core.specs.Tables.{IsSame}
use Rattle.partition_core.specs.Durable.{Durable, StandsOn, disk_in, is_down}

module _ {E : Type 0} where
  -- the records that a crash inside the call may find of it, a front of them: those that it adds, or, of a partition that is
  -- down, those of the call that was cut off before
  abbrev pub underway : PartState E → Event E → List (Record E)
  underway p e = if p.up then records p (attempt e) else p.torn

  abbrev pub is_cut : Event E → Bool
  is_cut (Cut what) = true
  is_cut other = false

  -- some answer shows the event
  abbrev pub AnySuch : {A : Type 0} → (A → Event E → Type 0) → Event E → Type 0
  AnySuch {A} Shows e = (x : A) × Shows x e

  -- such an event was cut off
  abbrev pub IsCutOff : {A : Type 0} → (A → Event E → Type 0) → Event E → Type 0
  IsCutOff Shows e = (what : Event E) × AnySuch Shows what × (e ≡ Cut what)

module _ {S E D : Type 0} (kinds : Kinds S E) (codec : Codec E) (state : D → DiskState) (old new : Durable E D) where
  -- a step from this state that shows such an event
  pub record SteppedOn (p : PartState E) (Shows : Event E → Type 0) : Type 0 where
    pub event : Event E
    pub after : PartState E
    pub shows : Shows event
    pub step : PartStep kinds old.tables.sites old.tables.parts old.tables.id p event after
    pub stands : StandsOn codec state new after
    pub moments : AtEachMoment (disk_in state old).story (disk_in state new).story (HoldsFront codec p.log (underway p event))

  -- Four calls of the disk for each record at most; exactly, once the call is done, and none that was to fail. What it
  -- wrote, or a front of it, fits the room of the disk as a whole.
  pub record Spends (p : PartState E) (e : Event E) : Type 0 where
    pub most : Lowers (4 * length (records p (attempt e))) (disk_in state old).left (disk_in state new).left
    pub exact : is_cut e ≡ false → (disk_in state new).left ≡ fewer (4 * length (records p e)) (disk_in state old).left
    pub spared : is_cut e ≡ false → Spared (4 * length (records p e)) (disk_in state old).left
    pub fits : 1 ≤ length (records p (attempt e)) → gate_of old.gates + size codec (records p (attempt e)) + 1 ≤ (disk_in state old).room

  -- each state that it stood for, and that meets the premise, took such a step
  pub record StepsOn (Given : PartState E → Type 0) (Shows : Event E → Type 0) : Type 0 where
    pub same : IsSame old.tables new.tables
    pub goes_on : GoesOn (disk_in state old) (disk_in state new)
    pub step : (p : PartState E) → StandsOn codec state old p → Given p → (s : SteppedOn p Shows) × Spends p s.event

  -- a crash: its disk isn't touched
  pub record Crashes : Type 0 where
    pub same : IsSame old.tables new.tables
    pub disk : new.gates ≡ old.gates
    pub step : (p : PartState E) → StandsOn codec state old p → SteppedOn p (λ e. e ≡ Crashed)

  -- it would have written something of such a thing, but its log with these records would pass the room of the disk
  pub record IsFull (p : PartState E) (Shows : Event E → Type 0) (room : ℕ) : Type 0 where
    pub what : Event E
    pub shows : Shows what
    pub may : MayDo kinds old.tables.sites old.tables.parts old.tables.id p what
    pub some : 1 ≤ length (records p what)
    pub past : room < gate_of old.gates + size codec (records p what) + 1

  module _ (Given : PartState E → Type 0) (asked : Ask E) {A : Type 0} (Shows : A → Event E → Type 0) where
    abbrev pub CallsOn : Result A DurableError → Type 0
    CallsOn (Ok x) = StepsOn Given (Shows x)
    CallsOn (Err call.NoMemory) = new ≡ old
    CallsOn (Err call.Down) = (new ≡ old) × (is_down old ≡ true) × StepsOn Given (λ e. e ≡ Refused asked event.IsDown)
    CallsOn (Err call.Disk) = Fails (disk_in state old) (disk_in state new) × (is_down new ≡ true) × StepsOn Given (IsCutOff Shows)
    CallsOn (Err (call.Full room)) = (new ≡ old) × (room ≡ (disk_in state old).room) × StepsOn Given (λ e. e ≡ Refused asked (event.HasNoRoom room))
        × ((p : PartState E) → StandsOn codec state old p → Given p → IsFull p (AnySuch Shows) room)
    CallsOn (Err (call.Refused why)) = StepsOn Given (λ e. e ≡ Refused asked (cause why))
