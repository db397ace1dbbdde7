use Rattle.std.proofs.Common.{◌≡◌, ap, ◌∙◌, subst, Result}
use Rattle.crdt_core.specs.KindsOf.{kinds_of}
use Rattle.partition_lock.specs.Answers.{Comes}
use Rattle.partition_lock.specs.Lines.{FailsAs}
use Rattle.partition_lock.proofs.Settling.{fails}
use Rattle.partition_lock.proofs.desk.Desk.ask.Goals as goal

pub returns-in-Ok-unanswered-clause-ok : goal.returns-in-Ok-unanswered-clause-ok
returns-in-Ok-unanswered-clause-ok g c run s a given =
    let kinds = kinds_of g.C.Crdt.laws in
    let ask = g.K.PartitionCall.ask c.args.call.now in
    let shows = g.K.PartitionCall.shows c.args.call.now in
    fails c.args.self.now ask shows c.args.tx c.args.number c.args.cut c.requires.tx c.requires.number c.requires.cut kinds g.J.Naming.sites g.J.Naming.parts c.args.pass c.call-pass.result.0 run c.args.by c.in-Err.error c.unanswered.result
    (subst (λ at. FailsAs at c.args.tx c.args.number c.args.cut c.in-Err.error c.unanswered.result) c.self.view_is c.unanswered.ensures) c.in-Ok-unanswered.line c.in-Ok-unanswered.is
    (subst (Comes kinds g.J.Naming.sites g.J.Naming.parts c.args.pass c.call-pass.result.0 run c.args.by c.args.self.now ask shows) c.in-Err.is (c.call-pass.ensures.comes run s a given))
