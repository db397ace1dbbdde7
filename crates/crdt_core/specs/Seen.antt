-- Updates of an object, and which of them have seen which.
use Rattle.std.specs.Prelude.{ℕ, Bool, true, false, not, ◌&&◌, List, Option}
use Rattle.std.specs.List.{list_any}
use Rattle.site_vector.specs.declared.ids.Dot.{Dot}
use Rattle.site_vector.specs.Ids.{same_dot}
use Rattle.crdt_core.specs.declared.object.Field.{Field}
use Rattle.crdt_core.specs.declared.operation.Act.{Act}
use Rattle.crdt_core.specs.declared.operation.Act.TheVariants.{Reset, Assign}

pub record Update : Type 0 where
  -- its transaction, and its number there
  pub dot : Dot
  -- the fields that lead to what it changes
  pub path : List Field
  pub act : Act
  -- the stamp that it shows, where it assigns a register that the last writer wins
  pub stamp : Option ℕ
  -- the clock value of the partition where it was made
  pub now : ℕ
  -- the updates that it has seen
  pub saw : Dot → Bool

abbrev pub sees : Update → Dot → Bool
sees u d = u.saw d

-- some update of the list has this dot
abbrev pub has_dot : List Update → Dot → Bool
has_dot us d = list_any (λ u. same_dot u.dot d) us

abbrev pub is_reset : Act → Bool
is_reset Reset = true
is_reset _ = false

abbrev pub is_assign : Act → Bool
is_assign (Assign x) = true
is_assign _ = false

-- no reset of the list has seen it
abbrev pub is_live : List Update → Update → Bool
is_live us u = not (list_any (λ r. is_reset r.act && sees r u.dot) us)
