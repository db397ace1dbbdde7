-- The states and effects of the counter whose updates a reset undoes.
use Rattle.std.specs.Prelude.{ℕ, Bool, List, [], Option, Some, None, ℤ}
use Rattle.std.specs.Int.{int_wrap, w128}
use Rattle.std.specs.FinMap.{entries}
use Rattle.site_vector.specs.declared.ids.Dot.{Dot}
use Rattle.crdt_core.specs.declared.kind.Kind.{Kind}
use Rattle.crdt_core.specs.declared.kind.Kind.TheVariants as kind
use Rattle.crdt_core.specs.declared.object.Field.{Field}
use Rattle.crdt_core.specs.declared.operation.Act.{Act}
use Rattle.crdt_core.specs.declared.operation.Act.TheVariants as act
use Rattle.crdt_core.specs.declared.value.Value.{Value}
use Rattle.crdt_core.specs.declared.value.Value.TheVariants.{Int}
use Rattle.crdt_core.specs.Kinds.{same_kind}
use Rattle.crdt_core.specs.DotSet.{has_dot}
use Rattle.crdt_core.specs.Kept.{KeptAt, kept_step, dots_of}
use Rattle.crdt_meanings.specs.CounterMeaning.{amount, total_by}
use Rattle.crdt_meanings.specs.declared.counters.FatEffect.{FatEffect}
use Rattle.crdt_meanings.specs.declared.counters.FatEffect.TheVariants.{Amount, Reset}

abbrev pub fat_has : Kind → Bool
fat_has k = same_kind k kind.CounterFat

-- the dots that an effect takes out, and the amount that it puts in
abbrev pub fat_out : FatEffect → List Dot
fat_out (Amount n) = []
fat_out (Reset dots) = dots

abbrev pub fat_own : FatEffect → Option ℤ
fat_own (Amount n) = Some n
fat_own (Reset dots) = None

abbrev pub fat_step : KeptAt ℤ → Dot → FatEffect → KeptAt ℤ
fat_step s d e = kept_step s d (fat_out e) (fat_own e)

abbrev pub fat_made : Kind → KeptAt ℤ → List Field → Act → ℕ → FatEffect
fat_made k s p act.Reset now = Reset (dots_of s)
fat_made k s p a now = Amount (amount a)

abbrev pub fat_value : KeptAt ℤ → Value
fat_value s = Int (int_wrap w128 (total_by (λ e. e.1) (entries s)))

abbrev pub fat_names : FatEffect → Dot → Bool
fat_names e d = has_dot (fat_out e) d
