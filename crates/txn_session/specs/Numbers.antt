-- The numbers that a pass holds, and the calls that bear them.
use Rattle.std.specs.Prelude.{◌≡◌, ◌<◌, ◌≤◌, ◌==◌, ℕ, Bool, true, List, [], ◌∷◌, Option, None, Some, if◌then◌else◌}
use Rattle.world_model.specs.threads.Calls.{Call}

abbrev pub IsLeast : (ℕ → Bool) → ℕ → Type 0
IsLeast numbers k = (numbers k ≡ true) × ((n : ℕ) → numbers n ≡ true → k ≤ n)

-- what a call bears: the number that it was handed, or the least that its pass holds
abbrev pub Bears : (ℕ → Bool) → Option ℕ → ℕ → Type 0
Bears numbers None by = IsLeast numbers by
Bears numbers (Some n) by = by ≡ n

-- the calls that bear this number
abbrev pub made_by : {E : Type 0} → ℕ → List (Call E) → List (Call E)
made_by n [] = []
made_by n (c ∷ run) = if c.by == n then c ∷ made_by n run else made_by n run

-- a pass with one number, above those of the other
pub record IsNew (old new : ℕ → Bool) : Type 0 where
  pub number : ℕ
  pub one : (n : ℕ) → new n ≡ (n == number)
  pub above : (n : ℕ) → old n ≡ true → n < number
