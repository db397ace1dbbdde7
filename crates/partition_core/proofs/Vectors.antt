-- Entries of vectors.
use Rattle.std.proofs.Common.{◌≡◌, ◌≢◌, ℕ, ◌-◌, ◌≤◌, List, length, arith, length-set, get_or-set_same, get_or-set_other}
use Rattle.site_vector.specs.Vector.{entry, replaced}

pub entry_replaced : (v : List ℕ) (site n : ℕ) → 1 ≤ site → site ≤ length v → entry (replaced v site n) site ≡ n
entry_replaced v site n low high = get_or-set_same v (site - 1) n 0 (omega arith)

pub entry_other : (v : List ℕ) (site n j : ℕ) → 1 ≤ site → 1 ≤ j → j ≢ site → entry (replaced v site n) j ≡ entry v j
entry_other v site n j low lowest apart = get_or-set_other v (site - 1) (j - 1) n 0 (λ k. apart (omega arith))

pub width_replaced : (v : List ℕ) (site n : ℕ) → length (replaced v site n) ≡ length v
width_replaced v site n = length-set v (site - 1) n
