-- What counters mean.
use Rattle.std.specs.Prelude.{List, [], ◌∷◌, filter, ℤ, pos, neg_ℤ, ◌+ℤ◌}
use Rattle.std.specs.Int.{int_wrap, w128}
use Rattle.crdt_core.specs.declared.kind.Kind.{Kind}
use Rattle.crdt_core.specs.declared.operation.Act.{Act}
use Rattle.crdt_core.specs.declared.operation.Act.TheVariants.{Increment, Decrement}
use Rattle.crdt_core.specs.declared.value.Value.{Value}
use Rattle.crdt_core.specs.declared.value.Value.TheVariants.{Int}
use Rattle.crdt_core.specs.Seen.{Update, is_live}

abbrev pub amount : Act → ℤ
amount (Increment n) = n
amount (Decrement n) = neg_ℤ n
amount _ = pos 0

-- the sum of what each member counts
abbrev pub total_by : {A : Type 0} → (A → ℤ) → List A → ℤ
total_by f [] = pos 0
total_by f (x ∷ xs) = total_by f xs +ℤ f x

abbrev pub total : List Update → ℤ
total us = total_by (λ u. amount u.act) us

-- the sum of the live amounts, as 128 bits hold it
abbrev pub counter_meaning : Kind → List Update → Value
counter_meaning k us = Int (int_wrap w128 (total (filter (is_live us) us)))
