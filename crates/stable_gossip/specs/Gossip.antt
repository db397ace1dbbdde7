-- What a partition has heard of the partitions of its site.
use Rattle.std.specs.Prelude.{◌≡◌, ℕ, ◌≤◌, ◌==◌, if◌then◌else◌, List, [], ◌∷◌, length, ⊤}
use Rattle.site_vector.specs.Vector.{entry}
use Rattle.site_vector.specs.Known.{vector_of}

-- the numbers of sites and of partitions, and a vector of each partition, in their order
pub record Gossip : Type 0 where
  pub sites : ℕ
  pub parts : ℕ
  pub heard : List (List ℕ)

-- each vector has one entry for each site
abbrev pub AreWide : ℕ → List (List ℕ) → Type 0
AreWide sites [] = ⊤
AreWide sites (v ∷ vs) = (length v ≡ sites) × AreWide sites vs

-- what holds of all that was ever heard
pub record IsGossip (g : Gossip) : Type 0 where
  pub some_site : 1 ≤ g.sites
  pub most_sites : g.sites ≤ 8
  pub some_part : 1 ≤ g.parts
  pub most_parts : g.parts ≤ 16
  pub each : length g.heard ≡ g.parts
  pub wide : AreWide g.sites g.heard

-- how far partition q has come with site j, where the own partition tells its own vector
abbrev pub told : ℕ → List ℕ → List (List ℕ) → ℕ → ℕ → ℕ
told own_part own heard j q = if own_part == q then entry own j else entry (vector_of heard q) j
