-- The states and effects of sets from which elements can be removed.
use Rattle.std.specs.Prelude.{ℕ, Bool, true, false, List, [], Option, Some, None}
use Rattle.std.specs.FinMap.{keys}
use Rattle.std.specs.Bool.{then_some}
use Rattle.site_vector.specs.declared.ids.Dot.{Dot}
use Rattle.crdt_core.specs.declared.kind.Kind.{Kind}
use Rattle.crdt_core.specs.declared.kind.Kind.TheVariants.{SetAw, SetRw}
use Rattle.crdt_core.specs.declared.object.Field.{Field}
use Rattle.crdt_core.specs.declared.operation.Act.{Act}
use Rattle.crdt_core.specs.declared.operation.Act.TheVariants as act
use Rattle.crdt_core.specs.declared.value.Value.{Value}
use Rattle.crdt_core.specs.declared.value.Value.TheVariants.{Words}
use Rattle.crdt_core.specs.Kinds.{same_kind}
use Rattle.crdt_core.specs.Texts.{ascending}
use Rattle.crdt_meanings.specs.Elements.{Elements, take_named, named_at, passing, names_dot, shows}
use Rattle.crdt_meanings.specs.declared.sets.Named.{Named}
use Rattle.crdt_meanings.specs.declared.sets.SetEffect.{SetEffect}
use Rattle.crdt_meanings.specs.declared.sets.SetEffect.TheVariants.{Add, Remove, Reset}

-- the kind, by whether removes win over the adds that haven't seen them
abbrev pub set_kind : Bool → Kind
set_kind false = SetAw
set_kind true = SetRw

abbrev pub set_has : Bool → Kind → Bool
set_has removes_win k = same_kind k (set_kind removes_win)

abbrev pub named_of : SetEffect → List Named
named_of (Add ns) = ns
named_of (Remove ns) = ns
named_of (Reset ns) = ns

-- what a remove puts at its own dot: no mark where removes win, and nothing where adds do
abbrev pub remove_own : Bool → Option Bool
remove_own removes_win = then_some removes_win false

-- what an effect puts at its own dot, of each element that it names: a mark for an add
abbrev pub set_own : Bool → SetEffect → Option Bool
set_own removes_win (Add ns) = Some true
set_own removes_win (Remove ns) = remove_own removes_win
set_own removes_win (Reset ns) = None

abbrev pub set_step : Bool → Elements → Dot → SetEffect → Elements
set_step removes_win m d e = take_named m d (set_own removes_win e) (named_of e)

abbrev pub set_made : Elements → Act → SetEffect
set_made m (act.Add xs) = Add (named_at m (ascending xs))
set_made m (act.Remove xs) = Remove (named_at m (ascending xs))
set_made m act.Reset = Reset (named_at m (keys m))
set_made m _ = Reset []

abbrev pub kind_made : Kind → Elements → List Field → Act → ℕ → SetEffect
kind_made k m p a now = set_made m a

abbrev pub set_value : Bool → Elements → Value
set_value removes_win m = Words (passing (shows removes_win) m)

abbrev pub set_names : SetEffect → Dot → Bool
set_names e d = names_dot (named_of e) d
