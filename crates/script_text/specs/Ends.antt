-- Where a line ends.
use Rattle.std.specs.Prelude.{◌≢◌, ℕ, List, [], ◌∷◌, ⊤}

-- no byte is a LF
abbrev pub HasNoEnd : List ℕ → Type 0
HasNoEnd [] = ⊤
HasNoEnd (b ∷ bytes) = (b ≢ 10) × HasNoEnd bytes
