-- The states and effects of the register that keeps the texts of concurrent assigns.
use Rattle.std.specs.Prelude.{ℕ, Bool, List, [], Option, Some, None, map}
use Rattle.std.specs.FinMap.{entries}
use Rattle.site_vector.specs.declared.ids.Dot.{Dot}
use Rattle.crdt_core.specs.declared.kind.Kind.{Kind}
use Rattle.crdt_core.specs.declared.kind.Kind.TheVariants.{RegisterMv}
use Rattle.crdt_core.specs.declared.object.Field.{Field}
use Rattle.crdt_core.specs.declared.operation.Act.{Act}
use Rattle.crdt_core.specs.declared.operation.Act.TheVariants as act
use Rattle.crdt_core.specs.declared.value.Value.{Value}
use Rattle.crdt_core.specs.declared.value.Value.TheVariants.{Words}
use Rattle.crdt_core.specs.Kinds.{same_kind}
use Rattle.crdt_core.specs.DotSet.{has_dot}
use Rattle.crdt_core.specs.Kept.{KeptAt, kept_step, dots_of}
use Rattle.crdt_meanings.specs.Sorted.{sorted}
use Rattle.crdt_meanings.specs.declared.registers.MvEffect.{MvEffect}
use Rattle.crdt_meanings.specs.declared.registers.MvEffect.TheVariants.{Assign, Reset}

abbrev pub mv_has : Kind → Bool
mv_has k = same_kind k RegisterMv

-- the dots that an effect takes out, and the text that it puts in
abbrev pub mv_out : MvEffect → List Dot
mv_out (Assign text dots) = dots
mv_out (Reset dots) = dots

abbrev pub mv_own : MvEffect → Option (List ℕ)
mv_own (Assign text dots) = Some text
mv_own (Reset dots) = None

abbrev pub mv_step : KeptAt (List ℕ) → Dot → MvEffect → KeptAt (List ℕ)
mv_step s d e = kept_step s d (mv_out e) (mv_own e)

abbrev pub mv_made_on : KeptAt (List ℕ) → Act → MvEffect
mv_made_on s (act.Assign text) = Assign text (dots_of s)
mv_made_on s act.Reset = Reset (dots_of s)
mv_made_on s _ = Reset []

abbrev pub mv_made : Kind → KeptAt (List ℕ) → List Field → Act → ℕ → MvEffect
mv_made k s p a now = mv_made_on s a

-- the texts that are kept, in order
abbrev pub texts_kept : KeptAt (List ℕ) → List (List ℕ)
texts_kept s = map (λ e. e.1) (entries s)

abbrev pub mv_value : KeptAt (List ℕ) → Value
mv_value s = Words (sorted (texts_kept s))

abbrev pub mv_names : MvEffect → Dot → Bool
mv_names e d = has_dot (mv_out e) d
