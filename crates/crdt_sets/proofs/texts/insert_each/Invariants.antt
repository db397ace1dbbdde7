use Rattle.std.proofs.Common.{◌≡◌, drop}
use Rattle.crdt_meanings.specs.SetGo.{with_each}
use Rattle.crdt_sets.proofs.texts.insert_each.Given as goal

abbrev pub invariant-loop-text : goal.invariant-loop-text
invariant-loop-text l = with_each l.set (drop l.text-index l.texts) ≡ with_each l.fn.set l.texts
