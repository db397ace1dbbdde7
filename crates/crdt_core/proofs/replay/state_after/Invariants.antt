use Rattle.std.proofs.Common.{◌≡◌, take}
use Rattle.std.specs.Prelude.{reverse}
use Rattle.crdt_core.specs.History.{folded}
use Rattle.crdt_core.proofs.replay.state_after.Given as goal

abbrev pub invariant-loop-dot : goal.invariant-loop-dot
invariant-loop-dot g l = let C = g.C.Crdt in l.state ≡ folded (C.initial l.fn.kind) C.applied (reverse (take l.dot-index l.stored))
