use Rattle.std.proofs.Common.{◌≡◌, ◌++◌, map}
use Rattle.crdt_meanings.specs.Maps.{members, shown}
use Rattle.crdt_maps.proofs.values.shown.Given as goal

abbrev pub invariant-loop-field : goal.invariant-loop-field
invariant-loop-field g l = let I = g.I.Crdt in l.all ++ shown l.drops (map (λ e. (e.0, I.value_of e.1)) l.field-iterator) ≡ shown l.drops (members I.value_of l.fields)
