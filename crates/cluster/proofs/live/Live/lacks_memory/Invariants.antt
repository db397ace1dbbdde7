use Rattle.cluster.proofs.Feeding.{IsFedSoFar}
use Rattle.cluster.proofs.live.Live.lacks_memory.Given as goal

abbrev pub invariant-loop-step : goal.invariant-loop-step
invariant-loop-step g l = IsFedSoFar g.D.Disk.state l.self.sites l.steps l.step-index
