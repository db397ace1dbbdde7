-- The codes of kinds, and fields as one.
use Rattle.std.specs.Prelude.{ℕ, Bool, true, false, ◌&&◌, ◌==◌, List, [], ◌∷◌}
use Rattle.std.specs.Str.{bytes_eq}
use Rattle.crdt_core.specs.declared.kind.Kind.{Kind}
use Rattle.crdt_core.specs.declared.kind.Kind.TheVariants.{CounterPn, CounterFat, SetGo, SetAw, SetRw, FlagEw, FlagDw, RegisterLww, RegisterMv, MapGo, MapRr}
use Rattle.crdt_core.specs.declared.object.Field.{Field}

abbrev pub kind_code : Kind → ℕ
kind_code CounterPn = 1
kind_code CounterFat = 2
kind_code SetGo = 3
kind_code SetAw = 4
kind_code SetRw = 5
kind_code FlagEw = 6
kind_code FlagDw = 7
kind_code RegisterLww = 8
kind_code RegisterMv = 9
kind_code MapGo = 10
kind_code MapRr = 11

abbrev pub same_kind : Kind → Kind → Bool
same_kind k l = kind_code k == kind_code l

abbrev pub same_field : Field → Field → Bool
same_field f g = bytes_eq f.name g.name && same_kind f.kind g.kind

abbrev pub same_path : List Field → List Field → Bool
same_path [] [] = true
same_path [] (g ∷ q) = false
same_path (f ∷ p) [] = false
same_path (f ∷ p) (g ∷ q) = same_field f g && same_path p q

-- the kind of what a path leads to
abbrev pub kind_at : Kind → List Field → Kind
kind_at k [] = k
kind_at k (f ∷ p) = kind_at f.kind p

-- whether the effect of an update depends on the state that it read
abbrev pub reads_state : Kind → Bool
reads_state CounterPn = false
reads_state SetGo = false
reads_state _ = true
