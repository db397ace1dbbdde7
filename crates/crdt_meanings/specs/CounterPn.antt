-- The states and effects of the counter whose updates stay.
use Rattle.std.specs.Prelude.{ℕ, Bool, false, List, ℤ, pos, negsuc, ◌==◌, ◌+ℤ◌}
use Rattle.std.specs.Int.{int_wrap, w128}
use Rattle.site_vector.specs.declared.ids.Dot.{Dot}
use Rattle.crdt_core.specs.declared.kind.Kind.{Kind}
use Rattle.crdt_core.specs.declared.kind.Kind.TheVariants.{CounterPn}
use Rattle.crdt_core.specs.declared.object.Field.{Field}
use Rattle.crdt_core.specs.declared.operation.Act.{Act}
use Rattle.crdt_core.specs.declared.value.Value.{Value}
use Rattle.crdt_core.specs.declared.value.Value.TheVariants.{Int}
use Rattle.crdt_core.specs.Kinds.{same_kind}
use Rattle.crdt_meanings.specs.CounterMeaning.{amount}

abbrev pub pn_has : Kind → Bool
pn_has k = same_kind k CounterPn

abbrev pub pn_step : ℤ → Dot → ℤ → ℤ
pn_step s d n = int_wrap w128 (s +ℤ n)

abbrev pub pn_made : Kind → ℤ → List Field → Act → ℕ → ℤ
pn_made k s p a now = amount a

abbrev pub pn_value : ℤ → Value
pn_value s = Int s

abbrev pub is_zero : ℤ → Bool
is_zero (pos n) = n == 0
is_zero (negsuc n) = false
