-- The stamp of an assign to a register that the last writer wins.
use Rattle.std.specs.Prelude.{ℕ, ◌+◌, ◌-◌, ◌^◌, max, min, ◌&&◌, List, [], ◌∷◌, filter, Option, Some, None, if◌then◌else◌}
use Rattle.crdt_core.specs.declared.kind.Kind.{Kind}
use Rattle.crdt_core.specs.declared.kind.Kind.TheVariants.{RegisterLww}
use Rattle.crdt_core.specs.Kinds.{same_kind, same_path, kind_at}
use Rattle.crdt_core.specs.Seen.{Update, sees, is_assign}

-- where stamps stay
abbrev pub last_stamp : ℕ
last_stamp = 2 ^ 63 - 1

abbrev pub one_more : Option ℕ → ℕ
one_more None = 0
one_more (Some n) = n + 1

-- the greatest of a clock value and of one more than each stamp
abbrev pub above_all : ℕ → List Update → ℕ
above_all now [] = now
above_all now (u ∷ us) = max (one_more u.stamp) (above_all now us)

-- the assigns of the same register that this one has seen
abbrev pub assigns_seen : Update → List Update → List Update
assigns_seen u us = filter (λ v. sees u v.dot && (is_assign v.act && same_path v.path u.path)) us

-- the greater of the clock value and one more than the greatest stamp of that register that it has seen
abbrev pub stamp_due : Kind → List Update → Update → Option ℕ
stamp_due k us u =
    if is_assign u.act && same_kind (kind_at k u.path) RegisterLww then Some (min last_stamp (above_all u.now (assigns_seen u us))) else None
