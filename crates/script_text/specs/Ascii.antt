-- Bytes that are a character each.
use Rattle.std.specs.Prelude.{ℕ, Bool, nat_lt}

abbrev pub is_ascii_byte : ℕ → Bool
is_ascii_byte c = nat_lt c 128
