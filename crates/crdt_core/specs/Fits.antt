-- Which operations a kind has.
use Rattle.std.specs.Prelude.{ℕ, nat_le, Bool, true, false, ◌&&◌, ◌||◌, List, [], ◌∷◌, length}
use Rattle.crdt_core.specs.declared.kind.Kind.{Kind}
use Rattle.crdt_core.specs.declared.kind.Kind.TheVariants.{CounterPn, CounterFat, SetGo, SetAw, SetRw, FlagEw, FlagDw, RegisterLww, RegisterMv, MapGo, MapRr}
use Rattle.crdt_core.specs.declared.object.Field.{Field}
use Rattle.crdt_core.specs.declared.operation.Act.{Act}
use Rattle.crdt_core.specs.declared.operation.Act.TheVariants.{Increment, Decrement, Add, Remove, Enable, Disable, DropField}
use Rattle.crdt_core.specs.Seen.{is_reset, is_assign}

-- the kinds of the fields of a map
abbrev pub nests_in : Kind → Kind → Bool
nests_in MapGo k = true
nests_in MapRr CounterFat = true
nests_in MapRr SetAw = true
nests_in MapRr SetRw = true
nests_in MapRr FlagEw = true
nests_in MapRr FlagDw = true
nests_in MapRr RegisterMv = true
nests_in MapRr MapRr = true
nests_in _ k = false

-- a kind that has fields
abbrev pub is_map : Kind → Bool
is_map MapGo = true
is_map MapRr = true
is_map k = false

-- an act that names at least one element
abbrev pub names_some : List (List ℕ) → Bool
names_some [] = false
names_some (x ∷ xs) = true

abbrev pub is_amount : Act → Bool
is_amount (Increment n) = true
is_amount (Decrement n) = true
is_amount _ = false

abbrev pub is_add : Act → Bool
is_add (Add xs) = names_some xs
is_add _ = false

abbrev pub is_remove : Act → Bool
is_remove (Remove xs) = names_some xs
is_remove _ = false

abbrev pub is_switch : Act → Bool
is_switch Enable = true
is_switch Disable = true
is_switch _ = false

abbrev pub is_drop : Act → Bool
is_drop (DropField f) = nests_in MapRr f.kind
is_drop _ = false

-- the acts of a kind
abbrev pub allows : Kind → Act → Bool
allows CounterPn a = is_amount a
allows CounterFat a = is_amount a || is_reset a
allows SetGo a = is_add a
allows SetAw a = is_add a || (is_remove a || is_reset a)
allows SetRw a = is_add a || (is_remove a || is_reset a)
allows FlagEw a = is_switch a || is_reset a
allows FlagDw a = is_switch a || is_reset a
allows RegisterLww a = is_assign a
allows RegisterMv a = is_assign a || is_reset a
allows MapGo a = false
allows MapRr a = is_drop a || is_reset a

-- each field may stand in the map around it, and the act is one of what the path leads to
abbrev pub leads_to : Kind → List Field → Act → Bool
leads_to k [] a = allows k a
leads_to k (f ∷ p) a = nests_in k f.kind && leads_to f.kind p a

-- an object has at most three fields below it
abbrev pub fits : Kind → List Field → Act → Bool
fits k p a = nat_le (length p) 3 && leads_to k p a
