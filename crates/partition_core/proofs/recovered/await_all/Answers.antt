use Rattle.std.proofs.Common.{ap, length, arith}
use Rattle.partition_core.proofs.Recovering.{filling_more, filling_fits, filling_ends, none_left}
use Rattle.partition_core.proofs.recovered.await_all.Goals as goal

pub add-requires-clause-fresh : goal.add-requires-clause-fresh
add-requires-clause-fresh g c = (filling_fits c.args.entries c.loop-entry.entry-iterator.rest.items c.in-Some.entry c.next.new.self.rest.items c.loop-entry.prepared.entries c.loop-entry.promised c.loop-entry.prepared.room c.in-Some.ensures.steps.0 c.loop-entry.invariant).1

pub loop-entry-preserved : goal.loop-entry-preserved
loop-entry-preserved g c =
    let count = ap length c.as_slice-in-loop-entry.ensures in
    let sum = c.in-Some-checked_add.ensures in
    filling_more c.args.entries c.loop-entry.entry-iterator.rest.items c.in-Some.entry c.next.new.self.rest.items c.loop-entry.prepared.entries c.add.new.self.entries c.loop-entry.promised c.in-Some-checked_add.all c.loop-entry.prepared.room c.add.new.self.room c.in-Some.ensures.steps.0 c.loop-entry.invariant c.add.ensures.entries c.add.ensures.ascends (omega (arith, count, sum)) c.add.ensures.room

pub returns : goal.returns
returns g c = filling_ends c.args.entries c.loop-entry.entry-iterator.rest.items c.loop-entry.prepared.entries c.loop-entry.promised c.loop-entry.prepared.room (none_left _ (let a = c.loop-entry.entry-iterator.rest.ok in let b = c.in-None.ensures.steps.0 in omega (arith, a, b))) c.loop-entry.invariant
