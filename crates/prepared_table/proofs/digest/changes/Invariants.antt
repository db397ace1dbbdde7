use Rattle.std.proofs.Common.{◌≡◌, drop}
use Rattle.crdt_core.specs.Parts.{touches}
use Rattle.prepared_table.proofs.digest.changes.Given as goal

abbrev pub invariant-loop-update : goal.invariant-loop-update
invariant-loop-update g l = touches l.updates l.object ≡ touches (drop l.update-index l.updates) l.object
