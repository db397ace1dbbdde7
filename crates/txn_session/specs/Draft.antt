-- The updates of an open transaction.
use Rattle.std.specs.Prelude.{ℕ, List, Option, Some, None}
use Rattle.crdt_core.specs.declared.record.Upd.{Upd}

-- what a draft holds, and for how many more it has memory of its own
pub record Drafted (E : Type 0) : Type 0 where
  pub items : List (Upd E)
  pub room : ℕ

-- a list that is shared stands for the list of its own, and has no room
abbrev pub items_of : {E : Type 0} → Option (List (Upd E)) → List (Upd E) → List (Upd E)
items_of (Some shared) own = shared
items_of None own = own

abbrev pub room_of : {E : Type 0} → Option (List (Upd E)) → ℕ → ℕ
room_of (Some shared) free = 0
room_of None free = free
