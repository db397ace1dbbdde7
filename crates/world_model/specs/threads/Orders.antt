-- Orders of traces in which each step stands after all that its caller had seen.
use Rattle.std.specs.Prelude.{List, [], false, length, ⊤, ◌++◌, ◌∷◌, ◌≡◌, ◌≤◌}
use Rattle.site_vector.specs.declared.ids.PartId.{PartId}
use Rattle.world_model.specs.threads.Marks.{Mark, Stands, made_at}
use Rattle.world_model.specs.threads.Merging.{is_later}

module _ {E : Type 0} where
  -- m, which comes next after these, stands in its trace after what is here of it, and has seen no more than is here
  pub record IsNextStep (traces : PartId → List (Mark E)) (m : Mark E) (ms : List (Mark E)) : Type 0 where
    pub stands : Stands (traces m.at) (length (made_at m.at ms)) m
    pub top : PartId → List (Mark E)
    pub fronts : (q : PartId) → traces q ≡ top q ++ made_at q ms
    pub seen : (q : PartId) → m.seen q ≤ length (made_at q ms)

  abbrev pub IsOrder : (PartId → List (Mark E)) → List (Mark E) → Type 0
  IsOrder traces [] = ⊤
  IsOrder traces (m ∷ ms) = IsNextStep traces m ms × IsOrder traces ms

  -- all of these traces, in an order in which each step stands after all that its caller had seen
  pub record IsOrderOf (traces : PartId → List (Mark E)) (ms : List (Mark E)) : Type 0 where
    pub order : IsOrder traces ms
    pub all : (q : PartId) → made_at q ms ≡ traces q

module _ {E : Type 0} where
  abbrev pub AreNotLater : Mark E → List (Mark E) → Type 0
  AreNotLater m [] = ⊤
  AreNotLater m (x ∷ ms) = (is_later x m ≡ false) × AreNotLater m ms

  -- none is later than one before it
  abbrev pub IsSorted : List (Mark E) → Type 0
  IsSorted [] = ⊤
  IsSorted (m ∷ ms) = AreNotLater m ms × IsSorted ms
