-- Fresh snapshots and reports, over the lines of a run.
use Rattle.std.specs.Prelude.{◌≡◌, ℕ, max, ◌==◌, Bool, true, false, if◌then◌else◌, List, ◌∷◌, length, ⊤}
use Rattle.site_vector.specs.declared.ids.PartId.{PartId}
use Rattle.site_vector.specs.declared.ids.TxId.{TxId}
use Rattle.site_vector.specs.Vector.{entry}
use Rattle.world_model.specs.declared.step.Step.{Step}
use Rattle.world_model.specs.declared.step.Step.TheVariants as step
use Rattle.world_model.specs.lines.Places.{IsOther}
use Rattle.world_model.specs.lines.Bounds.{IsLeast, bound, IsOwnBound, heard, IsStableEntry, IsOwnStable}
use Rattle.world_model.specs.lines.Lines.{Call, Begin, Line, Wish}

abbrev pub OwnEntry : ℕ → List Line → PartId → Wish → ℕ → ℕ → Bool → Type 0
OwnEntry parts ls p wish time n false = n ≡ max time (entry wish.past p.site)
OwnEntry parts ls p wish time n true = IsOwnStable parts ls p n

-- a snapshot has the stable entry of each other site, and for its own the greater of the drawn time and that of the dependency
pub record IsSnapshot (sites parts : ℕ) (before : List Line) (p : PartId) (wish : Wish) (t : TxId) (s : List ℕ) : Type 0 where
  pub width : length s ≡ sites
  pub own : OwnEntry parts before p wish t.time (entry s p.site) wish.stable
  pub others : (j : ℕ) → IsOther sites p.site j → IsStableEntry parts before p j (entry s j)

-- p tells the stable entries of other sites; of its own it knows its own bound
pub record IsStable (sites parts : ℕ) (ls : List Line) (p : PartId) (stable : List ℕ) : Type 0 where
  pub width : length stable ≡ sites
  pub others : (j : ℕ) → IsOther sites p.site j → IsStableEntry parts ls p j (entry stable j)
  pub own : (b : ℕ) × IsOwnBound ls p b × IsLeast parts (λ q. if p.part == q then b else heard ls p q p.site) (entry stable p.site)

-- a report shows the bounds, its own site's among them
pub record ShowsBounds (sites : ℕ) (before : List Line) (p : PartId) (bounds : List ℕ) : Type 0 where
  pub width : length bounds ≡ sites
  pub own : IsOwnBound before p (entry bounds p.site)
  pub others : (j : ℕ) → IsOther sites p.site j → entry bounds j ≡ bound before p j

-- what was heard is of the lines with this one
abbrev pub IsFresh : ℕ → ℕ → List Line → PartId → Call → Step → Type 0
IsFresh sites parts before p call (step.Crashed q) = ⊤
IsFresh sites parts before p (Begin who dep) (step.Began name t s) = IsSnapshot sites parts before p dep t s
IsFresh sites parts before p call (step.Heard number q stable) = IsStable sites parts ((record { at = p; call = call; step = step.Heard number q stable }) ∷ before) p stable
IsFresh sites parts before p call (step.Reported number q bounds) = ShowsBounds sites before p bounds
IsFresh sites parts before p call other = ⊤
