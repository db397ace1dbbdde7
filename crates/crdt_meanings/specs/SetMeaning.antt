-- What sets mean.
use Rattle.std.specs.Prelude.{ℕ, Bool, true, false, List, [], ◌∷◌, ◌++◌, filter}
use Rattle.crdt_core.specs.declared.kind.Kind.{Kind}
use Rattle.crdt_core.specs.declared.operation.Act.{Act}
use Rattle.crdt_core.specs.declared.operation.Act.TheVariants.{Add, Remove}
use Rattle.crdt_core.specs.declared.value.Value.{Value}
use Rattle.crdt_core.specs.declared.value.Value.TheVariants.{Words}
use Rattle.crdt_core.specs.Seen.{Update}
use Rattle.crdt_core.specs.Texts.{is_in, ascending}
use Rattle.crdt_core.specs.Wins.{add_wins, remove_wins}

abbrev pub adds : List ℕ → Act → Bool
adds x (Add xs) = is_in xs x
adds x _ = false

abbrev pub removes : List ℕ → Act → Bool
removes x (Remove xs) = is_in xs x
removes x _ = false

abbrev pub added_by : Act → List (List ℕ)
added_by (Add xs) = xs
added_by _ = []

-- what some update adds
abbrev pub added : List Update → List (List ℕ)
added [] = []
added (u ∷ us) = added_by u.act ++ added us

-- each element that was added
abbrev pub go_meaning : Kind → List Update → Value
go_meaning k us = Words (ascending (added us))

-- each element with a live add that no live remove of it has seen
abbrev pub aw_meaning : Kind → List Update → Value
aw_meaning k us = Words (ascending (filter (λ x. add_wins (adds x) (removes x) us) (added us)))

-- each element with a live add, where a live add of it has seen each live remove of it
abbrev pub rw_meaning : Kind → List Update → Value
rw_meaning k us = Words (ascending (filter (λ x. remove_wins (adds x) (removes x) us) (added us)))

abbrev pub set_meaning : Bool → Kind → List Update → Value
set_meaning false = aw_meaning
set_meaning true = rw_meaning
