use Rattle.partition_core.proofs.EndCalls.{fate_pending, fate_committed, fate_aborted}
use Rattle.partition_core.proofs.partition.Partition.fate.Goals as goal

pub returns-in-Some : goal.returns-in-Some
returns-in-Some g c = λ p h. fate_pending _ _ c.self.view_is c.args.tx c.requires p h c.in-Some._entry.now c.in-Some.ensures.value

pub returns-in-Some-has : goal.returns-in-Some-has
returns-in-Some-has g c = λ p h. fate_committed _ _ c.self.view_is c.args.tx c.requires p h c.in-Some-has.c c.in_default.ensures.value c.in-Some-has.ensures

pub returns-in-None : goal.returns-in-None
returns-in-None g c = λ p h. fate_aborted _ _ c.self.view_is c.args.tx c.requires p h c.in_default.ensures.value c.in-None.ensures
