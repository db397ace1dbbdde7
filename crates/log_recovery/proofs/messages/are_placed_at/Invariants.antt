use Rattle.std.proofs.Common.{◌≡◌, drop}
use Rattle.crdt_core.specs.Fitting.{are_placed_at}
use Rattle.log_recovery.proofs.messages.are_placed_at.Given as goal

abbrev pub invariant-loop-update : goal.invariant-loop-update
invariant-loop-update g l = are_placed_at l.parts l.number l.updates ≡ are_placed_at l.parts l.number (drop l.update-index l.updates)
