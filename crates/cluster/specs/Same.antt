-- What every call leaves of a cluster: its size, the room of each disk, and no disk forgets a fault that it counted.
use Rattle.std.specs.Prelude.{◌≡◌, ℕ, ◌≤◌, Bool, true, get_or, Option, None, Some}
use Rattle.std.proofs.Common.{refl, ◌∙◌, arith}
use Rattle.site_vector.specs.declared.ids.PartId.{PartId}
use Rattle.disk_core.specs.States.{DiskState}
use Rattle.partition_core.specs.Durable.{Durable, disk_in}
use Rattle.site_partitions.specs.Held.{Held, index_of, holds_part}

-- the partition, if one is named, is there
abbrev pub holds_place : {E D : Type 0} → Held E D → Option PartId → Bool
holds_place c None = true
holds_place c (Some p) = holds_part c p

at_most : (a b c : ℕ) → a ≤ b → b ≤ c → a ≤ c
at_most a b c h k = omega arith

module _ {E D : Type 0} (state : D → DiskState) where
  -- the disk of the partition at this place, where one stands there
  abbrev pub disk_at : Held E D → PartId → Durable E D → DiskState
  disk_at c p other = disk_in state (get_or c.partitions (index_of c.parts p) other)

  abbrev pub faults_at : Held E D → PartId → Durable E D → ℕ
  faults_at c p other = (disk_at c p other).faults

  abbrev pub room_at : Held E D → PartId → Durable E D → ℕ
  room_at c p other = (disk_at c p other).room

  pub record SameCluster (old new : Held E D) : Type 0 where
    pub sites_are : new.sites ≡ old.sites
    pub parts_are : new.parts ≡ old.parts
    pub faults : (p : PartId) (other : Durable E D) → faults_at old p other ≤ faults_at new p other
    pub rooms : (p : PartId) (other : Durable E D) → room_at new p other ≡ room_at old p other
    pub sounds : (p : PartId) (other : Durable E D) → (disk_at new p other).sound ≡ (disk_at old p other).sound

  pub same_refl : (c : Held E D) → SameCluster c c
  same_refl c = record { sites_are = refl; parts_are = refl; faults = λ p other. omega arith; rooms = λ p other. refl; sounds = λ p other. refl }

  pub same_trans : (a b c : Held E D) → SameCluster a b → SameCluster b c → SameCluster a c
  same_trans a b c s t = record {
    sites_are = t.sites_are ∙ s.sites_are;
    parts_are = t.parts_are ∙ s.parts_are;
    faults = λ p other. at_most (faults_at a p other) (faults_at b p other) (faults_at c p other) (s.faults p other) (t.faults p other);
    rooms = λ p other. t.rooms p other ∙ s.rooms p other;
    sounds = λ p other. t.sounds p other ∙ s.sounds p other;
  }
