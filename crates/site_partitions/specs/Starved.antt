-- Which disk of a cluster lacked memory to grow.
use Rattle.std.specs.Prelude.{◌≡◌, Bool}
use Rattle.site_vector.specs.declared.ids.PartId.{PartId}
use Rattle.disk_core.specs.States.{DiskState}
use Rattle.partition_core.specs.Durable.{Durable, disk_in}
use Rattle.site_partitions.specs.Held.{Held, IsAt}

-- whether the disk of the partition there did
abbrev pub IsStarvedAt : {E D : Type 0} → (D → DiskState) → Held E D → PartId → Bool → Type 0
IsStarvedAt {E} {D} state c at b = (t : Durable E D) → IsAt c at t → (disk_in state t).starved ≡ b
