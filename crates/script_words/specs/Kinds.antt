-- The names of the kinds.
use Rattle.std.specs.Prelude.{ℕ, List, [], ◌∷◌, Option, codes}
use Rattle.std.specs.List.{find}
use Rattle.std.specs.Str.{bytes_eq}
use Rattle.crdt_core.specs.declared.kind.Kind.{Kind}
use Rattle.crdt_core.specs.declared.kind.Kind.TheVariants as kind

abbrev pub kind_name : Kind → List ℕ
kind_name kind.CounterPn = codes "counter_pn"
kind_name kind.CounterFat = codes "counter_fat"
kind_name kind.SetGo = codes "set_go"
kind_name kind.SetAw = codes "set_aw"
kind_name kind.SetRw = codes "set_rw"
kind_name kind.FlagEw = codes "flag_ew"
kind_name kind.FlagDw = codes "flag_dw"
kind_name kind.RegisterLww = codes "register_lww"
kind_name kind.RegisterMv = codes "register_mv"
kind_name kind.MapGo = codes "map_go"
kind_name kind.MapRr = codes "map_rr"

abbrev pub all_kinds : List Kind
all_kinds = kind.CounterPn ∷ kind.CounterFat ∷ kind.SetGo ∷ kind.SetAw ∷ kind.SetRw ∷ kind.FlagEw ∷ kind.FlagDw ∷ kind.RegisterLww ∷ kind.RegisterMv ∷ kind.MapGo ∷ kind.MapRr ∷ []

-- the kind of this name
abbrev pub kind_named : List ℕ → Option Kind
kind_named name = find (λ k. bytes_eq name (kind_name k)) all_kinds
