-- What is known of several partitions: a vector of each, and the least of what they say.
use Rattle.std.specs.Prelude.{ℕ, zero, suc, ◌-◌, min, List, [], slice_index_or}

-- the entry of the partition with this number, among vectors
abbrev pub vector_of : List (List ℕ) → ℕ → List ℕ
vector_of vs q = slice_index_or vs (q - 1) []

-- the least for the partitions 1 to n
abbrev pub lowest : (ℕ → ℕ) → ℕ → ℕ
lowest known zero = 0
lowest known (suc zero) = known 1
lowest known (suc (suc n)) = min (known (suc (suc n))) (lowest known (suc n))
