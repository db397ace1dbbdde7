-- What the clients of a storm do: each, from client 1 on, makes its transactions, from transaction 1 on.
use Rattle.std.specs.Prelude.{ℕ, ◌+◌, ◌-◌, ◌%◌, List, [], ◌∷◌, ◌++◌, codes, pos}
use Rattle.std.specs.Fmt.{decimal}
use Rattle.crdt_core.specs.declared.kind.Kind.TheVariants as kind
use Rattle.crdt_core.specs.declared.object.ObjectId.{ObjectId}
use Rattle.crdt_core.specs.declared.operation.Act.{Act}
use Rattle.crdt_core.specs.declared.operation.Act.TheVariants.{Increment, Decrement, Add}
use Rattle.crdt_core.specs.declared.operation.Op.{Op}
use Rattle.client_pool.specs.declared.plan.Plan.{Plan}

-- the site of client i
abbrev pub site_of : Plan → ℕ → ℕ
site_of plan i = 1 + (i - 1) % plan.sites

-- the partition where transaction j begins
abbrev pub first_part : Plan → ℕ → ℕ
first_part plan j = 1 + j % plan.parts

-- the counter that transaction j of client i increments; it decrements the next one
abbrev pub counter_from : ℕ → ℕ → ℕ → ℕ
counter_from number i j = (number + i + j) % 8

abbrev pub counter_of : Plan → ℕ → ℕ → ℕ
counter_of plan i j = counter_from plan.number i j

abbrev pub next_counter : ℕ → ℕ
next_counter m = (m + 1) % 8

-- the name of client i's session
abbrev pub session_name : ℕ → List ℕ
session_name i = codes "c" ++ decimal i

-- the object of counter m
abbrev pub counter : ℕ → ObjectId
counter m = record { key = codes "k" ++ decimal m; bucket = []; kind = kind.CounterPn }

-- the object that names the clients
abbrev pub clients : ObjectId
clients = record { key = codes "clients"; bucket = []; kind = kind.SetAw }

-- what is done to counter m, to the next one, and to the names
abbrev pub incremented : ℕ → Act
incremented m = Increment (pos (1 + m))

abbrev pub decremented : ℕ → Act
decremented m = Decrement (pos (1 + m))

abbrev pub added : ℕ → Act
added i = Add (session_name i ∷ [])

abbrev pub whole : Act → Op
whole act = record { path = []; act = act }
