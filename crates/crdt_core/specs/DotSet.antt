-- Lists of updates as sets.
use Rattle.std.specs.Prelude.{Bool, not, List}
use Rattle.std.specs.List.{filter, list_any}
use Rattle.std.specs.List.Sorted.{IsStrictlySortedBy}
use Rattle.std.specs.BTreeSet.{insert_key}
use Rattle.site_vector.specs.declared.ids.Dot.{Dot}
use Rattle.site_vector.specs.Ids.{same_dot}
use Rattle.site_vector.specs.Order.{dot_cmp}

abbrev pub has_dot : List Dot → Dot → Bool
has_dot ds d = list_any (same_dot d) ds

-- each is below those after it
abbrev pub IsAscending : List Dot → Type 0
IsAscending ds = IsStrictlySortedBy dot_cmp ds

-- an ascending list with this dot in its place
abbrev pub with_dot : List Dot → Dot → List Dot
with_dot ds d = insert_key dot_cmp ds d

-- those that aren't gone
abbrev pub without : List Dot → List Dot → List Dot
without ds gone = filter (λ d. not (has_dot gone d)) ds
