use Rattle.crdt_core.specs.KindsOf.{kinds_of}
use Rattle.partition_lock.proofs.Settling.{rests}
use Rattle.partition_lock.proofs.desk.Desk.begin.Goals as goal

pub returns-in-Err-answer-clause-err : goal.returns-in-Err-answer-clause-err
returns-in-Err-answer-clause-err g c run s = rests (kinds_of g.C.Crdt.laws) g.J.Naming.sites g.J.Naming.parts c.ask-pass.new.self c.args.pass c.ask-pass.result.0 c.ask-pass.result.1 c.ask-pass.ensures.err c.in-Err-answer.field-0 c.in-Err-answer.is run s
