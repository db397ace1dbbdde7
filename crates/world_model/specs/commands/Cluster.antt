-- The cluster that a run has made, and its places.
use Rattle.std.specs.Prelude.{ℕ, Bool, true, false, ◌&&◌, ◌||◌, nat_le, [], ◌∷◌}
use Rattle.site_vector.specs.declared.ids.PartId.{PartId}
use Rattle.world_model.specs.declared.step.Step.{Step}
use Rattle.world_model.specs.declared.step.Step.TheVariants as step
use Rattle.world_model.specs.commands.Run.{Run}

abbrev pub is_cluster : Step → Bool
is_cluster (step.MadeCluster sites parts) = true
is_cluster other = false

abbrev pub has_cluster : Run → Bool
has_cluster [] = false
has_cluster (e ∷ run) = is_cluster e.step || has_cluster run

-- the number of sites that a line makes, where before there were so many
abbrev pub sites_after : ℕ → Step → ℕ
sites_after old (step.MadeCluster sites parts) = sites
sites_after old other = old

abbrev pub parts_after : ℕ → Step → ℕ
parts_after old (step.MadeCluster sites parts) = parts
parts_after old other = old

-- how many sites there are, and how many partitions at each
abbrev pub sites_of : Run → ℕ
sites_of [] = 0
sites_of (e ∷ run) = sites_after (sites_of run) e.step

abbrev pub parts_of : Run → ℕ
parts_of [] = 0
parts_of (e ∷ run) = parts_after (parts_of run) e.step

abbrev pub has_site : Run → ℕ → Bool
has_site run site = nat_le 1 site && nat_le site (sites_of run)

abbrev pub has_part : Run → PartId → Bool
has_part run p = has_site run p.site && (nat_le 1 p.part && nat_le p.part (parts_of run))
