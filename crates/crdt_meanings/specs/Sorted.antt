-- Texts in order, equal ones kept.
use Rattle.std.specs.Prelude.{ℕ, cond, List, [], ◌∷◌}
use Rattle.std.specs.Ordering.{is_lt}
use Rattle.crdt_core.specs.Texts.{text_cmp}

-- before the first that isn't less
abbrev pub placed : List ℕ → List (List ℕ) → List (List ℕ)
placed x [] = x ∷ []
placed x (y ∷ ys) = cond (is_lt (text_cmp y x)) (y ∷ placed x ys) (x ∷ y ∷ ys)

-- the texts of a list in order, equal ones kept
abbrev pub sorted : List (List ℕ) → List (List ℕ)
sorted [] = []
sorted (x ∷ xs) = placed x (sorted xs)
