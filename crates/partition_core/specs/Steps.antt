-- What a call of a partition owes: whatever its tables stood for took a step.
use Rattle.world_model.specs.rules.Event.{Event}
use Rattle.world_model.specs.rules.Partition.{PartState, PartStep}
use Rattle.crdt_core.specs.KindsOf.{Kinds}
use Rattle.partition_core.specs.Tables.{Tables, IsSame}
use Rattle.site_vector.specs.declared.ids.TxId.{TxId}
use Rattle.partition_core.specs.Stands.{Stands, IsNew}

-- no premise on the state
abbrev pub Anything : {E : Type 0} → PartState E → Type 0
Anything p = Unit {0}

-- the log names this transaction in no record
abbrev pub NamesNowhere : {E : Type 0} → TxId → PartState E → Type 0
NamesNowhere t p = IsNew p.log t

module _ {S E : Type 0} (kinds : Kinds S E) (old : Tables E) where
  -- a step from this state that shows such an event, and the tables stand for the state after it
  pub record Stepped (p : PartState E) (Shows : Event E → Type 0) (new : Tables E) : Type 0 where
    pub event : Event E
    pub after : PartState E
    pub shows : Shows event
    pub step : PartStep kinds old.sites old.parts old.id p event after
    pub stands : Stands new after

  -- each state that the tables stood for, and that meets the premise, took such a step
  pub record Steps (Given : PartState E → Type 0) (Shows : Event E → Type 0) (new : Tables E) : Type 0 where
    pub same : IsSame old new
    pub step : (p : PartState E) → Stands old p → Given p → Stepped p Shows new
