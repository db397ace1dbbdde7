-- The partition of an object.
use Rattle.std.specs.Prelude.{ℕ, ◌+◌, ◌*◌, ◌%◌, List, ◌∷◌, ◌++◌}
use Rattle.std.specs.List.{fold}

abbrev pub one_byte : ℕ → ℕ → ℕ
one_byte h b = (31 * h + b) % 65536

abbrev pub hashed : ℕ → List ℕ → ℕ
hashed h bytes = fold one_byte h bytes

-- of n partitions, by the bytes of bucket and key with a zero byte between them
abbrev pub place_of : List ℕ → List ℕ → ℕ → ℕ
place_of bucket key n = 1 + hashed 7 (bucket ++ 0 ∷ key) % n
