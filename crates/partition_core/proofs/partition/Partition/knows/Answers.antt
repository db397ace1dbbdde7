use Rattle.partition_core.proofs.EndCalls.{knows_pending, knows_held, knows_not}
use Rattle.partition_core.proofs.partition.Partition.knows.Goals as goal

pub returns-in-Some : goal.returns-in-Some
returns-in-Some g c = knows_pending _ _ c.self.view_is c.args.tx c.in-Some._entry.now c.in-Some.ensures.value

pub returns-in-Some-has : goal.returns-in-Some-has
returns-in-Some-has g c = knows_held _ _ c.self.view_is c.args.tx c.in-Some-has._c c.in_default.ensures.value c.in-Some-has.ensures

pub returns-in-None : goal.returns-in-None
returns-in-None g c = knows_not _ _ c.self.view_is c.args.tx c.in_default.ensures.value c.in-None.ensures
