use Rattle.std.proofs.Common.{sym, subst, Some}
use Rattle.std.specs.Prelude.{IfOk}
use Rattle.site_partitions.specs.Reaches.{types_of}
use Rattle.world_model.specs.declared.command.Command.{Command}
use Rattle.cluster.specs.Reached.{Applies}
use Rattle.cluster.proofs.running.Running.handle.Goals as goal

pub returns-in-Deliver : goal.returns-in-Deliver
returns-in-Deliver g c = subst (λ (k : Command). IfOk c.deliver.result (λ steps. Applies (types_of g.C.Crdt.laws g.C.Crdt.spells g.D.Disk.state) (Some c.args.self.now) k steps.items (Some c.deliver.new.self))) (sym c.in-Deliver.is) c.deliver.ensures

pub returns-in-DropMessage : goal.returns-in-DropMessage
returns-in-DropMessage g c = subst (λ (k : Command). IfOk c.drop_message.result (λ steps. Applies (types_of g.C.Crdt.laws g.C.Crdt.spells g.D.Disk.state) (Some c.args.self.now) k steps.items (Some c.drop_message.new.self))) (sym c.in-DropMessage.is) c.drop_message.ensures

pub returns-in-Hear : goal.returns-in-Hear
returns-in-Hear g c = subst (λ (k : Command). IfOk c.hear.result (λ steps. Applies (types_of g.C.Crdt.laws g.C.Crdt.spells g.D.Disk.state) (Some c.args.self.now) k steps.items (Some c.hear.new.self))) (sym c.in-Hear.is) c.hear.ensures

pub returns-in-DropReport : goal.returns-in-DropReport
returns-in-DropReport g c = subst (λ (k : Command). IfOk c.drop_report.result (λ steps. Applies (types_of g.C.Crdt.laws g.C.Crdt.spells g.D.Disk.state) (Some c.args.self.now) k steps.items (Some c.drop_report.new.self))) (sym c.in-DropReport.is) c.drop_report.ensures

pub returns-in-Send : goal.returns-in-Send
returns-in-Send g c = subst (λ (k : Command). IfOk c.send.result (λ steps. Applies (types_of g.C.Crdt.laws g.C.Crdt.spells g.D.Disk.state) (Some c.args.self.now) k steps.items (Some c.send.new.self))) (sym c.in-Send.is) c.send.ensures

pub returns-in-Report : goal.returns-in-Report
returns-in-Report g c = subst (λ (k : Command). IfOk c.report.result (λ steps. Applies (types_of g.C.Crdt.laws g.C.Crdt.spells g.D.Disk.state) (Some c.args.self.now) k steps.items (Some c.report.new.self))) (sym c.in-Report.is) c.report.ensures
