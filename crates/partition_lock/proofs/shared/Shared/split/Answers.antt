use Rattle.crdt_core.specs.KindsOf.{kinds_of}
use Rattle.partition_lock.specs.Calling.{holds}
use Rattle.partition_lock.proofs.Sharing.{if_ok, stays_for, still_for}
use Rattle.partition_lock.proofs.shared.Shared.split.Goals as goal

pub returns-clause-first : goal.returns-clause-first
returns-clause-first g c = if_ok c.split-answer.result (λ r h run s. stays_for (kinds_of g.C.Crdt.laws) g.J.Naming.sites g.J.Naming.parts _ c.args.self.now r.0 run (h run s)) c.split-answer.ensures.first

pub returns-clause-second : goal.returns-clause-second
returns-clause-second g c = if_ok c.split-answer.result (λ r h run s. still_for (kinds_of g.C.Crdt.laws) g.J.Naming.sites g.J.Naming.parts _ c.args.self.now r.1 run (holds c.args.pass) (h run s)) c.split-answer.ensures.second

pub returns-clause-unborne : goal.returns-clause-unborne
returns-clause-unborne g c = if_ok c.split-answer.result (λ r h. (h.0, h.1)) c.split-answer.ensures.unborne
