-- The later of two assigns.
use Rattle.std.specs.Prelude.{cond, Option, Some, None}
use Rattle.std.specs.declared.cmp.Ordering.{Ordering}
use Rattle.std.specs.Ordering.{nat_cmp, ordering_then, is_lt}
use Rattle.site_vector.specs.Order.{dot_cmp}
use Rattle.crdt_core.specs.Texts.{text_cmp}
use Rattle.crdt_meanings.specs.declared.registers.Stamped.{Stamped}

-- by stamp, then by dot; texts decide only where both are one
abbrev pub stamped_cmp : Stamped → Stamped → Ordering
stamped_cmp a b = ordering_then (nat_cmp a.stamp b.stamp) (ordering_then (dot_cmp a.dot b.dot) (text_cmp a.text b.text))

abbrev pub greater : Stamped → Stamped → Stamped
greater a b = cond (is_lt (stamped_cmp a b)) b a

abbrev pub later : Option Stamped → Option Stamped → Option Stamped
later None y = y
later (Some x) None = Some x
later (Some x) (Some y) = Some (greater x y)
