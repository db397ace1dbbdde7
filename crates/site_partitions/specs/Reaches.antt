-- What the partitions of all sites stand for: where a run of the world left each of them.
use Rattle.std.specs.Prelude.{◌≡◌, ℕ, ◌<◌, Bool, true, List, ◌∷◌, length, get_or, Option, ⊤}
use Rattle.site_vector.specs.declared.ids.PartId.{PartId}
use Rattle.site_vector.specs.declared.ids.TxId.{TxId}
use Rattle.crdt_core.specs.declared.kind.Kind.{Kind}
use Rattle.crdt_core.specs.declared.operation.Act.{Act}
use Rattle.crdt_core.specs.declared.object.Field.{Field}
use Rattle.crdt_core.specs.declared.value.Value.{Value}
use Rattle.site_vector.specs.declared.ids.Dot.{Dot}
use Rattle.field_codec.specs.Reading.{Read}
use Rattle.crdt_core.specs.EffectForm.{SpellsEffects}
use Rattle.crdt_core.specs.KindsOf.{Kinds, kinds_of}
use Rattle.crdt_core.specs.Law.{KeepsLaw}
use Rattle.crdt_core.specs.Seen.{Update}
use Rattle.disk_core.specs.States.{DiskState}
use Rattle.log_records.specs.Updates.{can_put_update}
use Rattle.partition_log.specs.Codec.{Codec, codec_of}
use Rattle.world_model.specs.rules.Asking.{MayCall, asked_by}
use Rattle.world_model.specs.rules.Event.{Ask, Event, Updated, Entry, EventsAre, attempt}
use Rattle.world_model.specs.rules.Partition.{PartState, new_part}
use Rattle.world_model.specs.lines.Places.{IsPlace}
use Rattle.world_model.specs.rules.World.{IsWorldRun, begun}
use Rattle.partition_core.specs.Durable.{Durable, StandsOn}
use Rattle.site_partitions.specs.Held.{Held, index_of}

-- what the types of objects and of disks say: the kinds, their bytes, which effects can be put, the state of a disk
pub record Types (S E D : Type 0) : Type 0 where
  pub kinds : Kinds S E
  pub codec : Codec E
  pub is_of : Kind → E → Bool
  pub can_put : E → Bool
  pub state : D → DiskState

-- those of a type that implements `Crdt` and one that implements `Disk`, by their members
abbrev pub types_of : {S E D : Type 0} {has : Kind → Bool} {too_deep : Kind → List Field → Bool} {initial : Kind → S} {step : S → Dot → E → S} {made : Kind → S → List Field → Act → ℕ → E} {value_of : S → Value} {stamp_of : E → Option ℕ} {meaning : Kind → List Update → Value} {names : E → Dot → Bool} {holds : S → Dot → Bool}
    {is_of : Kind → E → Bool} {can_put keeps is_spelled : E → Bool} {spelling : E → List ℕ} {reading : Kind → List ℕ → ℕ → Read E}
    → KeepsLaw has too_deep initial step made value_of stamp_of meaning names holds → SpellsEffects has is_of can_put keeps is_spelled spelling reading → (D → DiskState) → Types S E D
types_of {is_of = is_of} {can_put = can_put} laws spells state = record {
  kinds = kinds_of laws;
  codec = codec_of spells;
  is_of = is_of;
  can_put = can_put;
  state = state;
}

module _ {S E D : Type 0} (w : Types S E D) where
  -- what a session made can be put into a log
  abbrev pub PutsEvent : Event E → Type 0
  PutsEvent (Updated t s o own op read x stamp) = can_put_update w.kinds.has w.is_of w.can_put x ≡ true
  PutsEvent other = ⊤

  abbrev pub Puts : List (Entry E) → Type 0
  Puts run = EventsAre (λ p e. PutsEvent e) run

  -- this partition is that of the place, and stands for its state
  pub record StandsAt (sites parts : ℕ) (at : PartId) (t : Durable E D) (p : PartState E) : Type 0 where
    pub id : t.tables.id ≡ at
    pub sites_are : t.tables.sites ≡ sites
    pub parts_are : t.tables.parts ≡ parts
    pub stands : StandsOn w.codec w.state t p

  -- the run is one of the world, and each partition stands for the state that it left
  pub record Reaches (c : Held E D) (run : List (Entry E)) : Type 0 where
    pub state : PartId → PartState E
    pub is_run : IsWorldRun w.kinds c.sites c.parts run state
    pub puts : Puts run
    pub each : (p : PartId) → IsPlace c.sites c.parts p → (other : Durable E D) → StandsAt c.sites c.parts p (get_or c.partitions (index_of c.parts p) other) (state p)

  -- in some run that the cluster reached this may be asked of a partition
  pub record MayAsk (c : Held E D) (at : PartId) (ask : Ask E) : Type 0 where
    pub place : IsPlace c.sites c.parts at
    pub run : List (Entry E)
    pub reached : Reaches c run
    pub allowed : MayCall c.sites c.parts run at ask

  -- in some run that the cluster reached the transaction began
  pub record HasBegun (c : Held E D) (t : TxId) : Type 0 where
    pub run : List (Entry E)
    pub reached : Reaches c run
    pub begun : begun run t ≡ true

  -- the run goes on by an event that answers what was asked
  pub record Goes (c : Held E D) (run : List (Entry E)) (at : PartId) (ask : Ask E) (Shows : Event E → Type 0) : Type 0 where
    pub event : Event E
    pub asked : asked_by (attempt event) ≡ ask
    pub shows : Shows event
    pub reached : Reaches c ((record { at = at; event = event }) ∷ run)

  -- the first so many partitions, site by site, stand for a new one each
  pub record AreNew (sites parts count : ℕ) (partitions : List (Durable E D)) : Type 0 where
    pub size : length partitions ≡ count
    pub each : (p : PartId) → IsPlace sites parts p → index_of parts p < count → (other : Durable E D) → StandsAt sites parts p (get_or partitions (index_of parts p) other) (new_part sites parts)
