-- Numbers as a script spells them: decimal, without a leading zero, and within a range.
use Rattle.std.specs.Prelude.{ℕ, ◌+◌, ◌-◌, ◌*◌, ◌^◌, ◌==◌, ◌&&◌, nat_le, List, [], ◌∷◌, Option, Some, None, option_map, option_and_then, if◌then◌else◌, ℤ, pos, negsuc, fold}
use Rattle.std.specs.List.{list_all}
use Rattle.std.specs.Char.{is_ascii_digit}

abbrev pub with_digit : ℕ → ℕ → ℕ
with_digit n c = n * 10 + (c - 48)

-- the number that the digits spell
abbrev pub value_of : List ℕ → ℕ
value_of = fold with_digit 0

-- the digits' number, where all are digits and it is at most top
abbrev pub digits_of : ℕ → List ℕ → Option ℕ
digits_of top w = if list_all is_ascii_digit w && nat_le (value_of w) top then Some (value_of w) else None

-- the numeral's number, where it is at most top
abbrev pub numeral : ℕ → List ℕ → Option ℕ
numeral top [] = None
numeral top (c ∷ []) = digits_of top (c ∷ [])
numeral top (c ∷ d ∷ w) = if c == 48 then None else digits_of top (c ∷ d ∷ w)

-- a numeral from lo to hi
abbrev pub ranged : ℕ → ℕ → List ℕ → Option ℕ
ranged lo hi w = option_and_then (λ n. if nat_le lo n then Some n else None) (numeral hi w)

abbrev pub minus : ℕ → ℤ
minus n = negsuc (n - 1)

-- a numeral below 2^31, or a minus sign and one from 1 to 2^31
abbrev pub integer : List ℕ → Option ℤ
integer [] = None
integer (c ∷ w) = if c == 45 then option_map minus (ranged 1 (2 ^ 31) w) else option_map pos (numeral (2 ^ 31 - 1) (c ∷ w))
