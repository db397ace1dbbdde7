use Rattle.std.proofs.Common.{◌≡◌, drop}
use Rattle.std.specs.FinMap.{from_entries}
use Rattle.crdt_meanings.specs.Elements.{take_named}
use Rattle.crdt_sets.proofs.elements.take_each.Given as goal

abbrev pub invariant-loop-one : goal.invariant-loop-one
invariant-loop-one l = take_named (from_entries l.elements.entries) l.dot l.own (drop l.one-index l.named) ≡ take_named (from_entries l.fn.elements.entries) l.fn.dot l.fn.own l.named
