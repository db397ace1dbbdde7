use Rattle.std.proofs.Common.{◌≡◌, drop}
use Rattle.crdt_meanings.specs.Maps.{step_each}
use Rattle.crdt_maps.proofs.steps.apply_each.Given as goal

abbrev pub invariant-loop-field : goal.invariant-loop-field
invariant-loop-field g l = let I = g.I.Crdt in step_each I.has I.initial I.applied l.fields l.dot (drop l.field-index l.resets) ≡ step_each I.has I.initial I.applied l.fn.fields l.fn.dot l.resets
