-- Amounts at dots, and their sum.
use Rattle.std.specs.Prelude.{List, ℤ, pos, unwrap_or}
use Rattle.std.specs.Int.{int_wrap, w128}
use Rattle.std.specs.FinMap.{get, entries, from_entries}
use Rattle.site_vector.specs.declared.ids.Dot.{Dot}
use Rattle.crdt_core.specs.Kept.{KeptAt}
use Rattle.crdt_meanings.specs.CounterMeaning.{total_by}

-- the amounts of a tree
abbrev pub amounts_in : List (Dot × ℤ) → KeptAt ℤ
amounts_in es = from_entries es

-- their sum, as 128 bits hold it
abbrev pub sum_of : KeptAt ℤ → ℤ
sum_of m = int_wrap w128 (total_by (λ e. e.1) (entries m))

-- the amount at a dot, 0 where none stands
abbrev pub held_at : KeptAt ℤ → Dot → ℤ
held_at m d = unwrap_or (get m d) (pos 0)
