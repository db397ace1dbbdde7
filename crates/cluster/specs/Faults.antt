-- Which lines tell of a disk that failed, and that its count of faults rose where they do.
use Rattle.std.specs.Prelude.{◌≡◌, true, false, List, [], ◌∷◌, ⊤}
use Rattle.site_vector.specs.declared.ids.PartId.{PartId}
use Rattle.disk_core.specs.States.{DiskState, Rose, Fails}
use Rattle.partition_core.specs.Durable.{Durable}
use Rattle.world_model.specs.declared.step.Step.{Step}
use Rattle.world_model.specs.declared.step.Step.TheVariants as step
use Rattle.world_model.specs.commands.Cluster.{parts_of}
use Rattle.world_model.specs.commands.Run.{Run}
use Rattle.world_model.specs.commands.ScriptCalls.{calls_of}
use Rattle.world_model.specs.lines.Updates.{lead}
use Rattle.site_partitions.specs.Held.{Held, holds_part}
use Rattle.site_partitions.specs.Starved.{IsStarvedAt}
use Rattle.cluster.specs.Same.{disk_at, faults_at}

module _ {E D : Type 0} (state : D → DiskState) where
  -- the count of this partition's disk rose
  abbrev pub FaultsRose : Held E D → Held E D → PartId → Type 0
  FaultsRose old new p = (other : Durable E D) → Rose (faults_at state old p other) (faults_at state new p other)

  -- a call of this partition's disk failed
  abbrev pub HasFailed : Held E D → Held E D → PartId → Type 0
  HasFailed old new p = (other : Durable E D) → Fails (disk_at state old p other) (disk_at state new p other)

  -- what the line of a call of this partition tells of its disk, before and after it
  abbrev pub TellsFault : Held E D → Held E D → PartId → Step → Type 0
  TellsFault old new at (step.Disk p) = (p ≡ at) × HasFailed old new p
  TellsFault old new at (step.Unsure t) = HasFailed old new at
  TellsFault old new at other = ⊤

  -- what a line of a command tells after this run: where a decide is in doubt, it was asked of the lead
  abbrev pub ShowsFault : Run → Held E D → Held E D → Step → Type 0
  ShowsFault run old new (step.Disk p) = FaultsRose old new p
  ShowsFault run old new (step.Unsure t) = FaultsRose old new (lead (parts_of run) (calls_of run) t)
  ShowsFault run old new other = ⊤

  abbrev pub ShowFaults : Run → Held E D → Held E D → List Step → Type 0
  ShowFaults run old new [] = ⊤
  ShowFaults run old new (s ∷ steps) = ShowsFault run old new s × ShowFaults run old new steps

  -- the disk of this partition, if it is there, never lacked memory to grow
  abbrev pub IsFed : Held E D → PartId → Type 0
  IsFed c p = holds_part c p ≡ true → IsStarvedAt state c p false

  -- no line tells of a disk that failed for want of memory
  abbrev pub AreFed : Held E D → List Step → Type 0
  AreFed c [] = ⊤
  AreFed c (step.Disk p ∷ steps) = IsFed c p × AreFed c steps
  AreFed c (step.Unsure t ∷ steps) = ((p : PartId) → p.site ≡ t.site → IsFed c p) × AreFed c steps
  AreFed c (s ∷ steps) = AreFed c steps
