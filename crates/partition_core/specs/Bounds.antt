-- What a partition knows of how far sites have come.
use Rattle.std.specs.Prelude.{◌≡◌, ℕ, ◌-◌, ◌<◌, ◌≤◌, List, [], ◌∷◌, length}
use Rattle.site_vector.specs.Vector.{entry}
use Rattle.site_vector.specs.Known.{lowest}
use Rattle.prepared_table.specs.declared.entry.Entry.{Entry}
use Rattle.stable_gossip.specs.Gossip.{told}
use Rattle.world_model.specs.lines.Places.{IsOther}

-- the own bound, where these are pending in the order of their prepare times
abbrev pub own_bound : {E : Type 0} → ℕ → List (Entry E) → ℕ
own_bound clock [] = clock
own_bound clock (x ∷ xs) = x.time - 1

-- the least that is known of each site, over the partitions of the own one
abbrev pub AreStable : ℕ → ℕ → ℕ → List ℕ → List (List ℕ) → List ℕ → Type 0
AreStable sites parts part own heard stable = (j : ℕ) → 1 ≤ j → j ≤ sites → entry stable j ≡ lowest (told part own heard j) parts

-- the least other site whose entry is below what a session depends on
pub record IsBehind (sites own : ℕ) (stable dependency : List ℕ) (j : ℕ) : Type 0 where
  pub other : IsOther sites own j
  pub behind : entry stable j < entry dependency j
  pub least : (i : ℕ) → IsOther sites own i → entry stable i < entry dependency i → j ≤ i

-- no other site's is, up to this one
abbrev pub AreEnough : ℕ → ℕ → List ℕ → List ℕ → ℕ → Type 0
AreEnough sites own stable dependency upto = (j : ℕ) → IsOther sites own j → j ≤ upto → entry dependency j ≤ entry stable j

-- of all sites up to this one as much is stable as a session depends on
abbrev pub AllEnough : List ℕ → List ℕ → ℕ → Type 0
AllEnough stable dependency upto = (j : ℕ) → 1 ≤ j → j ≤ upto → entry dependency j ≤ entry stable j

-- the first site of which that isn't so
pub record IsFirstBehind (stable dependency : List ℕ) (j : ℕ) : Type 0 where
  pub low : 1 ≤ j
  pub high : j ≤ length stable
  pub behind : entry stable j < entry dependency j
  pub enough : (i : ℕ) → 1 ≤ i → i < j → entry dependency i ≤ entry stable i
