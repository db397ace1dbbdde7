use Rattle.std.proofs.Common.{sym, subst}
use Rattle.std.specs.Prelude.{IfOk}
use Rattle.site_partitions.specs.Reaches.{types_of}
use Rattle.world_model.specs.declared.command.Command.{Command}
use Rattle.cluster.specs.Reached.{AppliesLive}
use Rattle.cluster.proofs.live.Live.end.Goals as goal

pub returns-in-Expire : goal.returns-in-Expire
returns-in-Expire g c = subst (λ (k : Command). IfOk c.expire.result (λ steps. AppliesLive (types_of g.C.Crdt.laws g.C.Crdt.spells g.D.Disk.state) c.args.self.now k steps.items c.expire.new.self)) (sym c.in-Expire.is) c.expire.ensures

pub returns-in-Settle : goal.returns-in-Settle
returns-in-Settle g c = subst (λ (k : Command). IfOk c.settle.result (λ steps. AppliesLive (types_of g.C.Crdt.laws g.C.Crdt.spells g.D.Disk.state) c.args.self.now k steps.items c.settle.new.self)) (sym c.in-Settle.is) c.settle.ensures
