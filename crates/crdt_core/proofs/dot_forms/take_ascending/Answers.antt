use Rattle.std.proofs.Common.{arith}
use Rattle.crdt_core.proofs.FormSteps.{dots_ascend}
use Rattle.crdt_core.proofs.dot_forms.take_ascending.Goals as goal

pub returns-clause-ascending : goal.returns-clause-ascending
returns-clause-ascending c = dots_ascend c.args.bytes.now c.args.at c.take_list.result (λ i. omega (arith, c.type_inv.bytes i)) c.take_list.ensures.answer
