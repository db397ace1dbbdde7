use Rattle.crdt_core.specs.KindsOf.{kinds_of}
use Rattle.partition_lock.specs.Calling.{holds}
use Rattle.partition_lock.proofs.Sharing.{still_for}
use Rattle.partition_lock.proofs.shared.Shared.meet.Goals as goal

pub returns-clause-first : goal.returns-clause-first
returns-clause-first g c run s = still_for (kinds_of g.C.Crdt.laws) g.J.Naming.sites g.J.Naming.parts c.args.first c.args.self.now c.meet.result run (holds c.args.first) (c.meet.ensures.first run s)

pub returns-clause-second : goal.returns-clause-second
returns-clause-second g c run s = still_for (kinds_of g.C.Crdt.laws) g.J.Naming.sites g.J.Naming.parts c.args.first c.args.self.now c.meet.result run (holds c.args.second) (c.meet.ensures.second run s)
