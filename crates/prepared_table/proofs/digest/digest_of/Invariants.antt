use Rattle.std.proofs.Common.{◌≡◌, drop}
use Rattle.prepared_table.specs.Digest.{marked}
use Rattle.prepared_table.proofs.digest.digest_of.Given as goal

abbrev pub invariant-loop-update : goal.invariant-loop-update
invariant-loop-update g l = marked l.digest (drop l.update-index l.updates) ≡ marked 0 l.updates
