use Rattle.site_partitions.specs.Reaches.{types_of}
use Rattle.cluster.specs.Live.{session_in}
use Rattle.cluster.proofs.Leading.{IsOnWay}
use Rattle.cluster.proofs.Stepping.{steps_left}
use Rattle.cluster.proofs.commits.end_all.Given as goal

abbrev pub invariant-steps : goal.invariant-steps
invariant-steps g l = IsOnWay (types_of g.C.Crdt.laws g.C.Crdt.spells g.D.Disk.state) (record { sites = l.fn.sites; sessions = l.fn.sessions.entries }) l.way l.name l.fn.steps (record { sites = l.sites; sessions = l.sessions.entries }) l.left l.lines.items

abbrev pub decreases-steps : goal.decreases-steps
decreases-steps g l = steps_left l.way (session_in l.sessions.entries l.name)
