-- The partitions of all sites on their disks, as contracts see them.
use Rattle.std.specs.Prelude.{◌≡◌, ℕ, ◌+◌, ◌-◌, ◌*◌, ◌≤◌, Bool, ◌&&◌, nat_le, List, get_or, set}
use Rattle.site_vector.specs.declared.ids.PartId.{PartId}
use Rattle.partition_core.specs.Durable.{Durable, is_down}

pub record Held (E D : Type 0) : Type 0 where
  pub sites : ℕ
  -- of each site
  pub parts : ℕ
  -- site by site
  pub partitions : List (Durable E D)

-- where a partition stands in the list
abbrev pub index_of : ℕ → PartId → ℕ
index_of parts p = (p.site - 1) * parts + (p.part - 1)

-- the cluster's size, and a partition at each place
pub record IsSized (sites parts partitions : ℕ) : Type 0 where
  pub least_site : 1 ≤ sites
  pub most_sites : sites ≤ 8
  pub least_part : 1 ≤ parts
  pub most_parts : parts ≤ 16
  pub all : partitions ≡ sites * parts

module _ {E D : Type 0} where
  -- it has this site, or this partition
  abbrev pub holds_site : Held E D → ℕ → Bool
  holds_site c site = nat_le 1 site && nat_le site c.sites

  abbrev pub holds_part : Held E D → PartId → Bool
  holds_part c p = holds_site c p.site && (nat_le 1 p.part && nat_le p.part c.parts)

  -- this is the partition at the place
  abbrev pub IsAt : Held E D → PartId → Durable E D → Type 0
  IsAt c at t = (other : Durable E D) → get_or c.partitions (index_of c.parts at) other ≡ t

  -- with another one there
  abbrev pub with_part : Held E D → PartId → Durable E D → Held E D
  with_part c at t = record c { partitions = set c.partitions (index_of c.parts at) t }

  -- whether the partition there is down
  abbrev pub IsDownAt : Held E D → PartId → Bool → Type 0
  IsDownAt c at b = (t : Durable E D) → IsAt c at t → is_down t ≡ b
