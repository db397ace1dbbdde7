-- The states and effects of the set that only grows.
use Rattle.std.specs.Prelude.{ℕ, Bool, List, [], ◌∷◌, length, ◌==◌}
use Rattle.std.specs.FinMap.{FinMap, insert, keys}
use Rattle.site_vector.specs.declared.ids.Dot.{Dot}
use Rattle.crdt_core.specs.declared.kind.Kind.{Kind}
use Rattle.crdt_core.specs.declared.kind.Kind.TheVariants.{SetGo}
use Rattle.crdt_core.specs.declared.object.Field.{Field}
use Rattle.crdt_core.specs.declared.operation.Act.{Act}
use Rattle.crdt_core.specs.declared.value.Value.{Value}
use Rattle.crdt_core.specs.declared.value.Value.TheVariants.{Words}
use Rattle.crdt_core.specs.Kinds.{same_kind}
use Rattle.crdt_core.specs.Texts.{text_cmp, ascending}
use Rattle.crdt_meanings.specs.SetMeaning.{added_by}

abbrev pub Grown : Type 0
Grown = FinMap text_cmp (Unit {0})

abbrev pub go_has : Kind → Bool
go_has k = same_kind k SetGo

abbrev pub has_none : Grown → Bool
has_none s = length (keys s) == 0

-- with each of these texts
abbrev pub with_each : Grown → List (List ℕ) → Grown
with_each s [] = s
with_each s (x ∷ xs) = with_each (insert s x tt) xs

abbrev pub go_step : Grown → Dot → List (List ℕ) → Grown
go_step s d e = with_each s e

abbrev pub go_made : Kind → Grown → List Field → Act → ℕ → List (List ℕ)
go_made k s p a now = ascending (added_by a)

abbrev pub go_value : Grown → Value
go_value s = Words (keys s)
