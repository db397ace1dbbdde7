use Rattle.std.proofs.Common.{◌≡◌, true}
use Rattle.std.specs.List.{list_all}
use Rattle.crdt_meanings.specs.Maps.{map_blank}
use Rattle.crdt_maps.proofs.values.all_blank.Given as goal

abbrev pub invariant-loop-field : goal.invariant-loop-field
invariant-loop-field g l = let I = g.I.Crdt in list_all (λ e. I.is_blank e.1) l._field-iterator ≡ map_blank true I.is_blank l.fields
