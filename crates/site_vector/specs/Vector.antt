-- Vectors of times, with one entry per site.
use Rattle.std.specs.Prelude.{ℕ, Bool, true, false, ◌&&◌, nat_le, max, min, List, [], ◌∷◌, slice_index, slice_set, ◌-◌}
use Rattle.std.specs.Prelude as words
use Rattle.std.specs.declared.cmp.Ordering.{Ordering}
use Rattle.std.specs.Ordering.{nat_cmp, ordering_then}
use Rattle.std.specs.Cmp.Lexicographic.{slice_cmp}

-- each entry is at most that of the other vector
abbrev pub le : List ℕ → List ℕ → Bool
le [] v = true
le (n ∷ u) [] = false
le (n ∷ u) (m ∷ v) = nat_le n m && le u v

-- the entrywise greatest
abbrev pub join : List ℕ → List ℕ → List ℕ
join [] v = []
join (n ∷ u) [] = []
join (n ∷ u) (m ∷ v) = max n m ∷ join u v

-- the entrywise least
abbrev pub meet : List ℕ → List ℕ → List ℕ
meet [] v = []
meet (n ∷ u) [] = []
meet (n ∷ u) (m ∷ v) = min n m ∷ meet u v

-- the sum of the entries
abbrev pub sum : List ℕ → ℕ
sum v = words.sum v

-- the entry of a site; sites are numbered from 1
abbrev pub entry : List ℕ → ℕ → ℕ
entry v site = slice_index v (site - 1)

-- the vector with this entry of a site in place of its own
abbrev pub replaced : List ℕ → ℕ → ℕ → List ℕ
replaced v site n = slice_set v (site - 1) n

-- by the sums, and then by the entries from the first on
abbrev pub order : List ℕ → List ℕ → Ordering
order u v = ordering_then (nat_cmp (sum u) (sum v)) (slice_cmp nat_cmp u v)
