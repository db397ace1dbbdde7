use Rattle.cluster.proofs.Feeding.{AreFedUpTo}
use Rattle.cluster.proofs.live.Live.is_site_starved.Given as goal

abbrev pub invariant-loop-i : goal.invariant-loop-i
invariant-loop-i g l = AreFedUpTo g.D.Disk.state l.self.sites l.site l.i
