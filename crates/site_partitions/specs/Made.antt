-- What a cluster is made of, and what is handed back where it isn't made.
use Rattle.std.specs.Prelude.{◌≡◌, ℕ, List, [], ◌∷◌, ◌++◌, length, ⊤}
use Rattle.disk_core.specs.States.{DiskState, GoesOn, Fails}
use Rattle.gate_log.specs.Rest.{AtRest, Lowers}
use Rattle.site_vector.specs.declared.ids.PartId.{PartId}
use Rattle.world_model.specs.lines.Places.{IsPlace}
use Rattle.partition_core.specs.declared.restart.RestartError.{RestartError}
use Rattle.partition_core.specs.declared.restart.RestartError.TheVariants as restart
use Rattle.site_partitions.specs.declared.make.MakeError.{MakeError}
use Rattle.site_partitions.specs.declared.make.MakeError.TheVariants as make
use Rattle.site_partitions.specs.Held.{index_of}

module _ {D : Type 0} (state : D → DiskState) where
  -- each disk holds a log without a record
  abbrev pub AreBlank : List D → Type 0
  AreBlank [] = ⊤
  AreBlank (d ∷ ds) = ((end : ℕ) × AtRest (state d) end []) × AreBlank ds

  -- the disk that was made for this partition, after at most three calls; it failed only where its count of faults rose
  pub record CameBack (sites parts : ℕ) (disks : List D) (at : PartId) (disk : D) (why : RestartError) : Type 0 where
    pub place : IsPlace sites parts at
    pub given : D
    pub front : List D
    pub more : List D
    pub split : disks ≡ front ++ given ∷ more
    pub index : length front ≡ index_of parts at
    pub goes_on : GoesOn (state given) (state disk)
    pub left : Lowers 3 (state given).left (state disk).left
    pub failed : why ≡ restart.Disk → Fails (state given) (state disk)

  abbrev pub HandsBack : (sites parts : ℕ) → List D → MakeError D → Type 0
  HandsBack sites parts disks make.NoMemory = ⊤
  HandsBack sites parts disks (make.Partition at disk why) = CameBack sites parts disks at disk why
