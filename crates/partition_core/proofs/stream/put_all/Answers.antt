use Rattle.std.proofs.Common.{subst}
use Rattle.partition_core.specs.Messages.{CanPut}
use Rattle.partition_core.proofs.Putting.{last_fits, putting_more, putting_starts}
use Rattle.partition_core.proofs.stream.put_all.Goals as goal

pub insert-requires-clause-update_room : goal.insert-requires-clause-update_room
insert-requires-clause-update_room g c = (last_fits c.take_last.new.parts.items c.in-Some.part c.loop-part.store (subst (λ l. CanPut l c.loop-part.store) c.in-Some.ensures.items c.loop-part.invariant.can)).1

pub insert-requires-clause-fresh : goal.insert-requires-clause-fresh
insert-requires-clause-fresh g c = (last_fits c.take_last.new.parts.items c.in-Some.part c.loop-part.store (subst (λ l. CanPut l c.loop-part.store) c.in-Some.ensures.items c.loop-part.invariant.can)).2

pub insert-requires-clause-width : goal.insert-requires-clause-width
insert-requires-clause-width g c = (last_fits c.take_last.new.parts.items c.in-Some.part c.loop-part.store (subst (λ l. CanPut l c.loop-part.store) c.in-Some.ensures.items c.loop-part.invariant.can)).3

pub loop-part-preserved : goal.loop-part-preserved
loop-part-preserved g c = putting_more _ _ _ c.in-Some.part _ _ _ c.in-Some.ensures.items c.loop-part.invariant c.insert.ensures.sites c.insert.ensures.parts c.insert.ensures.room c.insert.ensures.update_room

pub loop-part-init : goal.loop-part-init
loop-part-init g c = putting_starts c.args.parts.items c.args.store.now _ c.reverse.ensures.items c.requires
