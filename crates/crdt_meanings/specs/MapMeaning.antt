-- What maps mean.
use Rattle.std.specs.Prelude.{Bool, true, cond, List, [], ◌∷◌, map, Option, Some, None}
use Rattle.std.specs.Option.{option_map}
use Rattle.std.specs.FinMap.{from_entries, entries}
use Rattle.crdt_core.specs.declared.kind.Kind.{Kind}
use Rattle.crdt_core.specs.declared.object.Field.{Field}
use Rattle.crdt_core.specs.declared.operation.Act.{Act}
use Rattle.crdt_core.specs.declared.operation.Act.TheVariants.{Reset, DropField}
use Rattle.crdt_core.specs.declared.value.Value.{Value}
use Rattle.crdt_core.specs.declared.value.Value.TheVariants.{Fields}
use Rattle.crdt_core.specs.Kinds.{same_field}
use Rattle.crdt_core.specs.FieldOrder.{field_cmp}
use Rattle.crdt_core.specs.Seen.{Update}
use Rattle.crdt_meanings.specs.Maps.{shown}

abbrev pub with_some : {A : Type 0} → Option A → List A → List A
with_some None xs = xs
with_some (Some x) xs = x ∷ xs

-- what a function picks of a list
abbrev pub picked : {A B : Type 0} → (A → Option B) → List A → List B
picked g [] = []
picked g (x ∷ xs) = with_some (g x) (picked g xs)

-- what an operation of a map does to one of its fields: drops of the field and resets of the map are resets of the field
abbrev pub inner_op : Field → List Field → Act → Option (List Field × Act)
inner_op f [] Reset = Some ([], Reset)
inner_op f [] (DropField g) = cond (same_field g f) (Some ([], Reset)) None
inner_op f [] _ = None
inner_op f (g ∷ p) a = cond (same_field g f) (Some (p, a)) None

-- an update with another path and act
abbrev pub within : Update → List Field × Act → Update
within u o = record { dot = u.dot; path = o.0; act = o.1; stamp = u.stamp; now = u.now; saw = u.saw }

abbrev pub at_field : Field → Update → Option Update
at_field f u = option_map (within u) (inner_op f u.path u.act)

-- the updates of a field, as its kind sees them
abbrev pub of_field : Field → List Update → List Update
of_field f us = picked (at_field f) us

-- the field that an operation leads into, where the inner type has its kind
abbrev pub entered : (Kind → Bool) → List Field → Option Field
entered has [] = None
entered has (f ∷ p) = cond (has f.kind) (Some f) None

-- the updated fields
abbrev pub updated : (Kind → Bool) → List Update → List Field
updated has us = picked (λ u. entered has u.path) us

-- each updated field once, in order, with its kind's meaning over the updates of that field
abbrev pub meanings : (Kind → Bool) → (Kind → List Update → Value) → List Update → List (Field × Value)
meanings has meaning us = entries (from_entries {R = field_cmp} (map (λ f. (f, meaning f.kind (of_field f us))) (updated has us)))

abbrev pub go_meaning : (Kind → Bool) → (Kind → List Update → Value) → Kind → List Update → Value
go_meaning has meaning k us = Fields (meanings has meaning us)

abbrev pub rr_meaning : (Kind → Bool) → (Kind → List Update → Value) → Kind → List Update → Value
rr_meaning has meaning k us = Fields (shown true (meanings has meaning us))

abbrev pub map_meaning : Bool → (Kind → Bool) → (Kind → List Update → Value) → Kind → List Update → Value
map_meaning drops = cond drops rr_meaning go_meaning
