-- What passes have seen of traces.
use Rattle.std.specs.Prelude.{Bool, List, [], false, if◌then◌else◌, length, ltb, ℕ, ⊤, ◌++◌, ◌∷◌, ◌≡◌, ◌≤◌}
use Rattle.site_vector.specs.declared.ids.PartId.{PartId}
use Rattle.world_model.specs.threads.Marks.{Mark, Stands}

module _ {E : Type 0} where
  -- what a pass has seen: the first steps of each trace, and with each all that its caller had seen
  pub record IsPart (view traces : PartId → List (Mark E)) : Type 0 where
    pub rest : PartId → List (Mark E)
    pub fronts : (q : PartId) → traces q ≡ rest q ++ view q
    pub closed : (p : PartId) (n : ℕ) (m : Mark E) → Stands (view p) n m → (q : PartId) → m.seen q ≤ length (view q)

  -- of each trace what one of two passes has seen more of
  abbrev pub both_seen : (PartId → List (Mark E)) → (PartId → List (Mark E)) → PartId → List (Mark E)
  both_seen view other q = if ltb (length (view q)) (length (other q)) then other q else view q

  -- none of these steps bears one of the numbers
  abbrev pub NoneBears : (ℕ → Bool) → List (Mark E) → Type 0
  NoneBears numbers [] = ⊤
  NoneBears numbers (m ∷ ms) = (numbers m.by ≡ false) × NoneBears numbers ms
