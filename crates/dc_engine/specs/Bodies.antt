-- What the frames of a script hold.
use Rattle.std.specs.Prelude.{ℕ, List, [], ◌∷◌, drop, map}

-- each line without its head
abbrev pub bodies : List (List ℕ) → List (List ℕ)
bodies lines = map (drop 2) lines

-- what is left is one line, if there is any
abbrev pub left : List ℕ → List (List ℕ)
left [] = []
left (b ∷ rest) = (b ∷ rest) ∷ []
