-- Disks that fail only where they find no memory to grow, or by a fuse, and disks without a fuse.
use Rattle.std.specs.Prelude.{◌≡◌, List, [], ◌∷◌, get_or, None, IsTrue, ⊤}
use Rattle.site_vector.specs.declared.ids.PartId.{PartId}
use Rattle.disk_core.specs.States.{DiskState}
use Rattle.world_model.specs.lines.Places.{IsPlace}
use Rattle.partition_core.specs.Durable.{Durable, disk_in}
use Rattle.site_partitions.specs.Held.{Held, index_of}

-- each of these disks is sound
abbrev pub AllSound : {D : Type 0} → (D → DiskState) → List D → Type 0
AllSound state [] = ⊤
AllSound state (d ∷ ds) = IsTrue (state d).sound × AllSound state ds

module _ {E D : Type 0} (state : D → DiskState) (c : Held E D) where
  -- the disk of each partition has P
  abbrev pub OfEachDisk : (DiskState → Type 0) → Type 0
  OfEachDisk P = (p : PartId) → IsPlace c.sites c.parts p → (other : Durable E D) → P (disk_in state (get_or c.partitions (index_of c.parts p) other))

  -- each is sound
  abbrev pub AreSound : Type 0
  AreSound = OfEachDisk (λ d. IsTrue d.sound)

  -- no fuse is on any
  abbrev pub AreUnarmed : Type 0
  AreUnarmed = OfEachDisk (λ d. d.left ≡ None)
