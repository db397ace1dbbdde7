-- The states and effects of flags.
use Rattle.std.specs.Prelude.{ℕ, Bool, true, false, not, ◌&&◌, List, [], Option, Some, None}
use Rattle.std.specs.Bool.{then_some}
use Rattle.site_vector.specs.declared.ids.Dot.{Dot}
use Rattle.crdt_core.specs.declared.kind.Kind.{Kind}
use Rattle.crdt_core.specs.declared.kind.Kind.TheVariants.{FlagEw, FlagDw}
use Rattle.crdt_core.specs.declared.object.Field.{Field}
use Rattle.crdt_core.specs.declared.operation.Act.{Act}
use Rattle.crdt_core.specs.declared.operation.Act.TheVariants as act
use Rattle.crdt_core.specs.declared.value.Value.{Value}
use Rattle.crdt_core.specs.declared.value.Value.TheVariants.{Flag}
use Rattle.crdt_core.specs.Kinds.{same_kind}
use Rattle.crdt_core.specs.DotSet.{has_dot}
use Rattle.crdt_core.specs.Kept.{KeptAt, kept_step, dots_of, has_marked, has_unmarked}
use Rattle.crdt_meanings.specs.declared.flags.FlagEffect.{FlagEffect}
use Rattle.crdt_meanings.specs.declared.flags.FlagEffect.TheVariants.{Enable, Disable, Reset}

-- the kind, by whether disables win over the enables that haven't seen them
abbrev pub flag_kind : Bool → Kind
flag_kind false = FlagEw
flag_kind true = FlagDw

abbrev pub flag_has : Bool → Kind → Bool
flag_has disables_win k = same_kind k (flag_kind disables_win)

-- the dots that an effect takes out
abbrev pub flag_out : FlagEffect → List Dot
flag_out (Enable dots) = dots
flag_out (Disable dots) = dots
flag_out (Reset dots) = dots

-- what a disable puts at its own dot: no mark where disables win, and nothing where enables do
abbrev pub disable_own : Bool → Option Bool
disable_own disables_win = then_some disables_win false

-- what an effect puts at its own dot: a mark for an enable
abbrev pub flag_own : Bool → FlagEffect → Option Bool
flag_own disables_win (Enable dots) = Some true
flag_own disables_win (Disable dots) = disable_own disables_win
flag_own disables_win (Reset dots) = None

abbrev pub flag_step : Bool → KeptAt Bool → Dot → FlagEffect → KeptAt Bool
flag_step disables_win s d e = kept_step s d (flag_out e) (flag_own disables_win e)

abbrev pub flag_made : KeptAt Bool → Act → FlagEffect
flag_made s act.Enable = Enable (dots_of s)
flag_made s act.Disable = Disable (dots_of s)
flag_made s act.Reset = Reset (dots_of s)
flag_made s _ = Reset []

abbrev pub kind_made : Kind → KeptAt Bool → List Field → Act → ℕ → FlagEffect
kind_made k s p a now = flag_made s a

-- on by an enable that is kept, where disables win, if no disable is
abbrev pub flag_value : Bool → KeptAt Bool → Value
flag_value false s = Flag (has_marked s)
flag_value true s = Flag (has_marked s && not (has_unmarked s))

abbrev pub flag_names : FlagEffect → Dot → Bool
flag_names e d = has_dot (flag_out e) d
