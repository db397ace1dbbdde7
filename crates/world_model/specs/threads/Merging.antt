-- All steps of some partitions in one list, by stamp and partition.
use Rattle.std.specs.Prelude.{Bool, List, [], if◌then◌else◌, ltb, suc, zero, ℕ, ◌&&◌, ◌++◌, ◌==◌, ◌||◌, ◌∷◌}
use Rattle.site_vector.specs.declared.ids.PartId.{PartId}
use Rattle.world_model.specs.lines.Places.{partitions}
use Rattle.world_model.specs.threads.Marks.{Mark}

abbrev pub is_lower : PartId → PartId → Bool
is_lower p q = ltb p.site q.site || (p.site == q.site && ltb p.part q.part)

abbrev pub all_places : ℕ → ℕ → List PartId
all_places zero parts = []
all_places (suc site) parts = partitions (suc site) 1 parts ++ all_places site parts

module _ {E : Type 0} where
  -- by stamp, and then by partition
  abbrev pub is_later : Mark E → Mark E → Bool
  is_later m x = ltb x.stamp m.stamp || (x.stamp == m.stamp && is_lower x.at m.at)

  abbrev pub insert_step : Mark E → List (Mark E) → List (Mark E)
  insert_step m [] = m ∷ []
  insert_step m (x ∷ ms) = if is_later m x then m ∷ x ∷ ms else x ∷ insert_step m ms

  abbrev pub insert_steps : List (Mark E) → List (Mark E) → List (Mark E)
  insert_steps [] ms = ms
  insert_steps (x ∷ xs) ms = insert_step x (insert_steps xs ms)

  -- all steps of these partitions, by stamp and partition, the newest first
  abbrev pub merged : List PartId → (PartId → List (Mark E)) → List (Mark E)
  merged [] traces = []
  merged (p ∷ ps) traces = insert_steps (traces p) (merged ps traces)
