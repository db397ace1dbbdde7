-- What is kept of updates that later ones undo: a value at each dot.
use Rattle.std.specs.Prelude.{Bool, cond, not, ◌==◌, List, [], Option, Some, None, is_some}
use Rattle.std.specs.List.{list_any}
use Rattle.std.specs.FinMap.{FinMap, insert, retain_keys, get, keys, entries, len}
use Rattle.site_vector.specs.declared.ids.Dot.{Dot}
use Rattle.site_vector.specs.Order.{dot_cmp}
use Rattle.crdt_core.specs.DotSet.{has_dot}

abbrev pub KeptAt : Type 0 → Type 0
KeptAt V = FinMap dot_cmp V

-- with these dots taken out
abbrev pub without : {V : Type 0} → KeptAt V → List Dot → KeptAt V
without m dots = retain_keys m (λ d. not (has_dot dots d))

-- with a value put at a dot
abbrev pub with_own : {V : Type 0} → KeptAt V → Dot → Option V → KeptAt V
with_own m d None = m
with_own m d (Some v) = insert m d v

-- an effect takes dots out and may put its own in
abbrev pub kept_step : {V : Type 0} → KeptAt V → Dot → List Dot → Option V → KeptAt V
kept_step m d dots own = with_own (without m dots) d own

-- the dots that are kept, in order
abbrev pub dots_of : {V : Type 0} → KeptAt V → List Dot
dots_of m = keys m

-- all dots, or none
abbrev pub dots_if : {V : Type 0} → Bool → KeptAt V → List Dot
dots_if b m = cond b (keys m) []

abbrev pub is_kept : {V : Type 0} → KeptAt V → Dot → Bool
is_kept m d = is_some (get m d)

-- something marked, something not marked
abbrev pub has_marked : KeptAt Bool → Bool
has_marked m = list_any (λ e. e.1) (entries m)

abbrev pub has_unmarked : KeptAt Bool → Bool
has_unmarked m = list_any (λ e. not e.1) (entries m)

abbrev pub keeps_none : {V : Type 0} → KeptAt V → Bool
keeps_none m = len m == 0
