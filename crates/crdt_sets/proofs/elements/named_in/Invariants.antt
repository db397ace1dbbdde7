use Rattle.std.proofs.Common.{◌≡◌, take}
use Rattle.std.specs.FinMap.{from_entries}
use Rattle.crdt_meanings.specs.Elements.{named_at}
use Rattle.crdt_sets.proofs.elements.named_in.Given as goal

abbrev pub invariant-loop-text : goal.invariant-loop-text
invariant-loop-text l = l.named ≡ named_at (from_entries l.elements.entries) (take l.text-index l.texts)
