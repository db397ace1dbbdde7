use Rattle.std.proofs.Common.{length}
use Rattle.effect_store.specs.Spots.{spots}
use Rattle.effect_store.specs.Newest.{IsApplying}
use Rattle.effect_store.proofs.newest.bring_forward.Given as goal

abbrev pub invariant-loop-step : goal.invariant-loop-step
invariant-loop-step g l = IsApplying g.C.Crdt.initial g.C.Crdt.applied l.object (length l.fn.newest.seen) (spots l.parts) l.at l.newest
