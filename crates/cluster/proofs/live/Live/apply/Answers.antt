use Rattle.std.proofs.Common.{sym, subst}
use Rattle.std.specs.Prelude.{IfOk}
use Rattle.site_partitions.specs.Reaches.{types_of}
use Rattle.world_model.specs.declared.command.Command.{Command}
use Rattle.cluster.proofs.Applying.{map_ok, has_cluster_already}
use Rattle.cluster.specs.Reached.{AppliesLive}
use Rattle.cluster.proofs.live.Live.apply.Goals as goal

pub returns-in-Cluster : goal.returns-in-Cluster
returns-in-Cluster g c = subst (λ (k : Command). IfOk c.only.result (λ steps. AppliesLive (types_of g.C.Crdt.laws g.C.Crdt.spells g.D.Disk.state) c.args.self.now k steps.items c.args.self.now)) (sym c.in-Cluster.is)
    (map_ok c.only.result (λ steps is. has_cluster_already (types_of g.C.Crdt.laws g.C.Crdt.spells g.D.Disk.state) c.args.self.now c.in-Cluster.sites c.in-Cluster.parts steps.items is) c.only.ensures)

pub returns-in-Clock : goal.returns-in-Clock
returns-in-Clock g c = subst (λ (k : Command). IfOk c.read_clock.result (λ steps. AppliesLive (types_of g.C.Crdt.laws g.C.Crdt.spells g.D.Disk.state) c.args.self.now k steps.items c.read_clock.new.self)) (sym c.in-Clock.is) c.read_clock.ensures

pub returns-in-Session : goal.returns-in-Session
returns-in-Session g c = subst (λ (k : Command). IfOk c.make_session.result (λ steps. AppliesLive (types_of g.C.Crdt.laws g.C.Crdt.spells g.D.Disk.state) c.args.self.now k steps.items c.make_session.new.self)) (sym c.in-Session.is) c.make_session.ensures

pub returns-in-Lose : goal.returns-in-Lose
returns-in-Lose g c = subst (λ (k : Command). IfOk c.lose.result (λ steps. AppliesLive (types_of g.C.Crdt.laws g.C.Crdt.spells g.D.Disk.state) c.args.self.now k steps.items c.lose.new.self)) (sym c.in-Lose.is) c.lose.ensures

pub returns-in-Begin : goal.returns-in-Begin
returns-in-Begin g c = subst (λ (k : Command). IfOk c.begin.result (λ steps. AppliesLive (types_of g.C.Crdt.laws g.C.Crdt.spells g.D.Disk.state) c.args.self.now k steps.items c.begin.new.self)) (sym c.in-Begin.is) c.begin.ensures

pub returns-in-Read : goal.returns-in-Read
returns-in-Read g c = subst (λ (k : Command). IfOk c.read.result (λ steps. AppliesLive (types_of g.C.Crdt.laws g.C.Crdt.spells g.D.Disk.state) c.args.self.now k steps.items c.read.new.self)) (sym c.in-Read.is) c.read.ensures

pub returns-in-Update : goal.returns-in-Update
returns-in-Update g c = subst (λ (k : Command). IfOk c.update.result (λ steps. AppliesLive (types_of g.C.Crdt.laws g.C.Crdt.spells g.D.Disk.state) c.args.self.now k steps.items c.update.new.self)) (sym c.in-Update.is) c.update.ensures

pub returns-in-Commit : goal.returns-in-Commit
returns-in-Commit g c = subst (λ (k : Command). IfOk c.commit.result (λ steps. AppliesLive (types_of g.C.Crdt.laws g.C.Crdt.spells g.D.Disk.state) c.args.self.now k steps.items c.commit.new.self)) (sym c.in-Commit.is) c.commit.ensures

pub returns-in-Abort : goal.returns-in-Abort
returns-in-Abort g c = subst (λ (k : Command). IfOk c.abort.result (λ steps. AppliesLive (types_of g.C.Crdt.laws g.C.Crdt.spells g.D.Disk.state) c.args.self.now k steps.items c.abort.new.self)) (sym c.in-Abort.is) c.abort.ensures

pub returns-in-Move : goal.returns-in-Move
returns-in-Move g c = subst (λ (k : Command). IfOk c.move_session.result (λ steps. AppliesLive (types_of g.C.Crdt.laws g.C.Crdt.spells g.D.Disk.state) c.args.self.now k steps.items c.move_session.new.self)) (sym c.in-Move.is) c.move_session.ensures
