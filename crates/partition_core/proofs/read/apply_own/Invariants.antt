use Rattle.std.proofs.Common.{◌≡◌, drop}
use Rattle.partition_core.specs.Reads.{applied}
use Rattle.partition_core.proofs.read.apply_own.Given as goal

abbrev pub invariant-loop-update : goal.invariant-loop-update
invariant-loop-update g l = applied g.C.Crdt.applied l.object l.tx l.fn.state l.own ≡ applied g.C.Crdt.applied l.object l.tx l.state (drop l.update-index l.own)
