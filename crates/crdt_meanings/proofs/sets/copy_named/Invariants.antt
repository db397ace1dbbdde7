use Rattle.std.proofs.Common.{◌≡◌, take}
use Rattle.crdt_meanings.proofs.sets.copy_named.Given as goal

abbrev pub invariant-loop-one : goal.invariant-loop-one
invariant-loop-one l = l.copied ≡ take l.one-index l.named
