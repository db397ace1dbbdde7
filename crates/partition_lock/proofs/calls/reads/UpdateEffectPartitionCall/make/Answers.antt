use Rattle.std.proofs.Common.{sym, subst}
use Rattle.site_partitions.specs.Reaches.{types_of, PutsEvent}
use Rattle.site_partitions.proofs.Asking.{update_width}
use Rattle.site_partitions.proofs.Making.{ready_put}
use Rattle.partition_lock.proofs.calls.reads.UpdateEffectPartitionCall.make.Goals as goal

pub update_fitting-requires-clause-width : goal.update_fitting-requires-clause-width
update_fitting-requires-clause-width g c = update_width _ _ _ _ _ c.args.self.now.tx c.args.self.now.s.now c.args.self.now.object.now c.args.self.now.own.now c.args.self.now.op.now c.requires.asked.3

pub returns-clause-called : goal.returns-clause-called
returns-clause-called g c = c.update_fitting.ensures.answers c.args.self.now.index

pub returns-clause-puts : goal.returns-clause-puts
returns-clause-puts g c x is e h =
    let call = c.args.self.now in
    subst (PutsEvent (types_of g.C.Crdt.laws g.C.Crdt.spells g.D.Disk.state)) (sym h.1)
    (ready_put _ _ _ _ _ call.tx call.s.now call.object.now call.own.now call.op.now call.index c.requires.asked.3 c.requires.fit.0 c.requires.fit.2 c.requires.fit.3 _ _ c.update_fitting.result x is c.update_fitting.ensures.ready)
