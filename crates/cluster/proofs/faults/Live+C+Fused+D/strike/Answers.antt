use Rattle.std.proofs.Common.{sym, subst}
use Rattle.std.specs.Prelude.{IfOk}
use Rattle.disk_core.specs.Fuses.{fused_state}
use Rattle.site_partitions.specs.Reaches.{types_of}
use Rattle.world_model.specs.declared.command.Command.{Command}
use Rattle.cluster.specs.Fuel.{SetsFuse}
use Rattle.cluster.proofs.Fusing.{ever_ok}
use Rattle.cluster.specs.Reached.{AppliesLive}
use Rattle.cluster.proofs.faults.Live+C+Fused+D.strike.Goals as goal

pub returns-in-Crash-clause-applies : goal.returns-in-Crash-clause-applies
returns-in-Crash-clause-applies g c = subst (λ (k : Command). IfOk c.crash.result (λ steps. AppliesLive (types_of g.C.Crdt.laws g.C.Crdt.spells (fused_state g.D.Disk.state)) c.args.self.now k steps.items c.crash.new.self)) (sym c.in-Crash.is) c.crash.ensures

pub returns-in-Restart-clause-applies : goal.returns-in-Restart-clause-applies
returns-in-Restart-clause-applies g c = subst (λ (k : Command). IfOk c.restart.result (λ steps. AppliesLive (types_of g.C.Crdt.laws g.C.Crdt.spells (fused_state g.D.Disk.state)) c.args.self.now k steps.items c.restart.new.self)) (sym c.in-Restart.is) c.restart.ensures.applies

pub returns-in-Fuse-clause-applies : goal.returns-in-Fuse-clause-applies
returns-in-Fuse-clause-applies g c = subst (λ (k : Command). IfOk c.fuse.result (λ steps. AppliesLive (types_of g.C.Crdt.laws g.C.Crdt.spells (fused_state g.D.Disk.state)) c.args.self.now k steps.items c.fuse.new.self)) (sym c.in-Fuse.is) c.fuse.ensures.applies

pub returns-in-Crash-clause-fuse : goal.returns-in-Crash-clause-fuse
returns-in-Crash-clause-fuse g c = subst (λ (k : Command). IfOk c.crash.result (λ steps. SetsFuse (fused_state g.D.Disk.state) k c.args.self.now.sites c.crash.new.self.sites)) (sym c.in-Crash.is) (ever_ok c.crash.result (λ steps. tt))

pub returns-in-Restart-clause-fuse : goal.returns-in-Restart-clause-fuse
returns-in-Restart-clause-fuse g c = subst (λ (k : Command). IfOk c.restart.result (λ steps. SetsFuse (fused_state g.D.Disk.state) k c.args.self.now.sites c.restart.new.self.sites)) (sym c.in-Restart.is) c.restart.ensures.fuse

pub returns-in-Fuse-clause-fuse : goal.returns-in-Fuse-clause-fuse
returns-in-Fuse-clause-fuse g c = subst (λ (k : Command). IfOk c.fuse.result (λ steps. SetsFuse (fused_state g.D.Disk.state) k c.args.self.now.sites c.fuse.new.self.sites)) (sym c.in-Fuse.is) c.fuse.ensures.fuse
