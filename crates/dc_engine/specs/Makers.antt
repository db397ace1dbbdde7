-- How disks come from their maker and go back to it.
use Rattle.std.specs.Prelude.{◌≡◌, ℕ, ◌+◌, nat_lt, List, [], ◌∷◌, ◌++◌, length, map, if◌then◌else◌, IsTrue, false, Option, None, Some, ⊤}
use Rattle.site_vector.specs.declared.ids.PartId.{PartId}
use Rattle.disk_core.specs.Fuses.{inside}
use Rattle.disk_core.specs.States.{DiskState}
use Rattle.disk_core.specs.declared.fused.Fused.{Fused}
use Rattle.disk_makers.specs.Makers.{Maker, IsSound}
use Rattle.gate_log.specs.Logs.{disk_of}
use Rattle.partition_core.specs.Durable.{Durable}
use Rattle.partition_core.specs.declared.restart.RestartError.TheVariants as restart
use Rattle.world_model.specs.declared.step.Step.{Step}
use Rattle.world_model.specs.declared.step.Step.TheVariants as step
use Rattle.site_partitions.specs.declared.make.MakeError.{MakeError}
use Rattle.site_partitions.specs.declared.make.MakeError.TheVariants as make
use Rattle.cluster.specs.Reached.{partitions_in, parts_in, SizedIn}
use Rattle.cluster.specs.Post.{WholeState}

abbrev pub first_place : PartId
first_place = record { site = 1; part = 1 }

-- the place after this one, site by site
abbrev pub next_place : ℕ → PartId → PartId
next_place parts p = if nat_lt p.part parts then record { site = p.site; part = p.part + 1 } else record { site = p.site + 1; part = 1 }

-- each with its place, from this one on
abbrev pub with_places : {D : Type 0} → ℕ → PartId → List D → List (PartId × D)
with_places parts at [] = []
with_places parts at (d ∷ ds) = (at, d) ∷ with_places parts (next_place parts at) ds

abbrev pub number_or_none : Option ℕ → ℕ
number_or_none None = 0
number_or_none (Some n) = n

module _ {D : Type 0} where
  -- it keeps what it kept, and nothing more was given back
  pub record IsUnchanged (old new : Maker D) : Type 0 where
    pub tells : new.tells ≡ old.tells
    pub given : new.given ≡ old.given

  -- these disks were given back, the first that of this place
  pub record GivesBack (parts : ℕ) (at : PartId) (disks : List D) (old new : Maker D) : Type 0 where
    pub out : old.out ≡ new.out + length disks
    pub faults : new.faults ≡ old.faults
    pub tells : new.tells ≡ old.tells
    pub given : IsTrue old.tells → new.given ≡ old.given ++ with_places parts at disks

  -- the disk of a partition, without its fuse
  abbrev pub disk_from : {E : Type 0} → Durable E (Fused D) → D
  disk_from t = inside (disk_of t.gates)

  -- the disks of all partitions of the cluster were given back, site by site
  pub record ReturnsAll {E : Type 0} (c : Option (WholeState E (Fused D))) (old new : Maker D) : Type 0 where
    pub sized : SizedIn c
    pub back : GivesBack (number_or_none (parts_in c)) first_place (map disk_from (partitions_in c)) old new

-- the line tells of the disk of the partition that didn't come up, which didn't want memory
abbrev pub FailsAt : {D : Type 0} → (D → DiskState) → MakeError D → List Step → Type 0
FailsAt state make.NoMemory steps = ⊥
FailsAt state (make.Partition at disk why) steps = (why ≡ restart.Disk) × ((state disk).starved ≡ false) × (steps ≡ step.Disk at ∷ [])

-- each of these disks fails only where it finds no memory to grow
abbrev pub AreSure : {D : Type 0} → (D → DiskState) → List D → Type 0
AreSure state [] = ⊤
AreSure state (d ∷ ds) = IsSound (state d) × AreSure state ds
