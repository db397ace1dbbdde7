-- The places of a cluster, and where a transaction began.
use Rattle.std.specs.Prelude.{◌≢◌, ℕ, ◌+◌, ◌≤◌, List, [], ◌∷◌, zero, suc}
use Rattle.site_vector.specs.declared.ids.PartId.{PartId}
use Rattle.site_vector.specs.declared.ids.TxId.{TxId}

pub record IsPlace (sites parts : ℕ) (p : PartId) : Type 0 where
  pub least_site : 1 ≤ p.site
  pub most_site : p.site ≤ sites
  pub least_part : 1 ≤ p.part
  pub most_part : p.part ≤ parts

-- the partition of a site with the number of p
abbrev pub twin : ℕ → PartId → PartId
twin site p = record { site = site; part = p.part }

abbrev pub first_of : PartId → List PartId → PartId
first_of p [] = p
first_of p (q ∷ qs) = q

-- where a transaction began
abbrev pub home : TxId → PartId
home t = record { site = t.site; part = t.part }

-- j is a site other than d
pub record IsOther (sites d j : ℕ) : Type 0 where
  pub least : 1 ≤ j
  pub most : j ≤ sites
  pub apart : j ≢ d

-- the partitions of a site from `first` on, so many
abbrev pub partitions : ℕ → ℕ → ℕ → List PartId
partitions site first zero = []
partitions site first (suc n) = (record { site = site; part = first }) ∷ partitions site (first + 1) n
