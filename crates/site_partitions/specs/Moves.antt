-- What any call of one partition leaves: all others as they were, and its disk gone on.
use Rattle.std.specs.Prelude.{◌≡◌}
use Rattle.site_vector.specs.declared.ids.PartId.{PartId}
use Rattle.disk_core.specs.States.{DiskState, GoesOn}
use Rattle.partition_core.specs.Durable.{Durable, disk_in}
use Rattle.site_partitions.specs.Held.{Held, IsAt, with_part}

-- it is the same cluster, and only the partition at this place changed
pub record Moves {E D : Type 0} (state : D → DiskState) (old new : Held E D) (at : PartId) : Type 0 where
  pub before : Durable E D
  pub after : Durable E D
  pub there : IsAt old at before
  pub changed : new ≡ with_part old at after
  pub same_sites : new.sites ≡ old.sites
  pub same_parts : new.parts ≡ old.parts
  pub disk : GoesOn (disk_in state before) (disk_in state after)
