-- The calls of a disk in memory, of which those on a list fail.
use Rattle.std.specs.Prelude.{ℕ, ◌+◌, ◌-◌, ◌^◌, Bool, true, false, ◌==◌, List, [], ◌∷◌, min}
use Rattle.std.specs.List.{list_any}

-- one more, up to the end of a count
abbrev pub counted : ℕ → ℕ
counted n = min (n + 1) (2 ^ 64 - 1)

-- the call after so many others is on the list
abbrev pub is_listed : List ℕ → ℕ → Bool
is_listed failing made = list_any (λ call. call == counted made) failing

abbrev pub is_empty : List ℕ → Bool
is_empty [] = true
is_empty (call ∷ calls) = false
