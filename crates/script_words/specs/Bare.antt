-- Which texts stand in a script and in a reply without quotes.
use Rattle.std.specs.Prelude.{ℕ, List, length, Bool, ◌&&◌, ◌||◌, ◌==◌, not}
use Rattle.std.specs.List.{list_all}
use Rattle.std.specs.Char.{is_ascii_alphanumeric}

-- an ASCII letter or digit, `_`, `-` or `.`
abbrev pub is_bare_byte : ℕ → Bool
is_bare_byte c = is_ascii_alphanumeric c || (c == 95 || (c == 45 || c == 46))

-- one or more of these bytes
abbrev pub is_bare : List ℕ → Bool
is_bare w = not (length w == 0) && list_all is_bare_byte w
