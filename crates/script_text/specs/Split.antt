-- The words of a line: what stands between spaces, where a space within quotes is a byte of its word.
use Rattle.std.specs.Prelude.{ℕ, Bool, true, false, ◌==◌, List, [], ◌∷◌, if◌then◌else◌}
use Rattle.std.specs.List.{filter}

-- where a byte stands: outside of quotes, within them, or after a backslash within them
pub data Where : Type 0 where
  outside : Where
  within : Where
  after_backslash : Where

abbrev pub space : ℕ
space = 32

abbrev pub quote : ℕ
quote = 34

abbrev pub backslash : ℕ
backslash = 92

-- where the next byte stands
abbrev pub after : Where → ℕ → Where
after outside c = if c == quote then within else outside
after within c = if c == quote then outside else (if c == backslash then after_backslash else within)
after after_backslash c = within

-- the byte ends its word
abbrev pub ends_word : Where → ℕ → Bool
ends_word outside c = c == space
ends_word within c = false
ends_word after_backslash c = false

abbrev pub onto_first : ℕ → List (List ℕ) → List (List ℕ)
onto_first c [] = (c ∷ []) ∷ []
onto_first c (w ∷ ws) = (c ∷ w) ∷ ws

-- what stands between the spaces, which may be nothing
abbrev pub pieces : Where → List ℕ → List (List ℕ)
pieces at [] = [] ∷ []
pieces at (c ∷ cs) = if ends_word at c then [] ∷ pieces outside cs else onto_first c (pieces (after at c) cs)

abbrev pub is_some_bytes : List ℕ → Bool
is_some_bytes [] = false
is_some_bytes (c ∷ cs) = true

abbrev pub words : List ℕ → List (List ℕ)
words line = filter is_some_bytes (pieces outside line)
