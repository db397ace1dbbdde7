-- The order of the kinds' names.
use Rattle.std.specs.Prelude.{ℕ}
use Rattle.crdt_core.specs.declared.kind.Kind.{Kind}
use Rattle.crdt_core.specs.declared.kind.Kind.TheVariants as kind

-- the place of the kind's name among those of all kinds
abbrev pub kind_place : Kind → ℕ
kind_place kind.CounterFat = 0
kind_place kind.CounterPn = 1
kind_place kind.FlagDw = 2
kind_place kind.FlagEw = 3
kind_place kind.MapGo = 4
kind_place kind.MapRr = 5
kind_place kind.RegisterLww = 6
kind_place kind.RegisterMv = 7
kind_place kind.SetAw = 8
kind_place kind.SetGo = 9
kind_place kind.SetRw = 10
