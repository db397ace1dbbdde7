-- Maps that are made of lists.
use Rattle.std.specs.Prelude.{List, [], ◌∷◌}
use Rattle.std.specs.FinMap.{FinMap, insert}
use Rattle.crdt_core.specs.declared.object.Field.{Field}
use Rattle.crdt_core.specs.FieldOrder.{field_cmp}

-- a map with the listed fields put in, one after another
abbrev pub filled : {S : Type 0} → FinMap field_cmp S → List (Field × S) → FinMap field_cmp S
filled m [] = m
filled m (e ∷ es) = filled (insert m e.0 e.1) es
