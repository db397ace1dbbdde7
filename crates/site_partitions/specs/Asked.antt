-- What may be asked of one partition, whatever holds it.
use Rattle.std.specs.Prelude.{ℕ, ◌≤◌, List}
use Rattle.site_vector.specs.declared.ids.PartId.{PartId}
use Rattle.world_model.specs.rules.Asking.{MayCall}
use Rattle.world_model.specs.rules.Event.{Ask, Entry}
use Rattle.world_model.specs.rules.Partition.{PartState}
use Rattle.world_model.specs.lines.Places.{IsPlace}
use Rattle.world_model.specs.rules.World.{IsWorldRun}
use Rattle.partition_core.specs.Durable.{Durable}
use Rattle.site_partitions.specs.Reaches.{Types, Puts, StandsAt}

-- in some run of the world, which left the partition as it stands, this may be asked of it
pub record IsAskable {S E D : Type 0} (w : Types S E D) (sites parts : ℕ) (at : PartId) (t : Durable E D) (ask : Ask E) : Type 0 where
  pub few_sites : sites ≤ 8
  pub few_parts : parts ≤ 16
  pub place : IsPlace sites parts at
  pub run : List (Entry E)
  pub state : PartId → PartState E
  pub is_run : IsWorldRun w.kinds sites parts run state
  pub puts : Puts w run
  pub stands : StandsAt w sites parts at t (state at)
  pub allowed : MayCall sites parts run at ask
