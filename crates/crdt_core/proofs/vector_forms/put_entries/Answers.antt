use Rattle.std.proofs.Common.{arith}
use Rattle.crdt_core.proofs.VectorSteps.{vector_spelled}
use Rattle.crdt_core.proofs.vector_forms.put_entries.Goals as goal

pub returns-clause-spelled : goal.returns-clause-spelled
returns-clause-spelled c = vector_spelled c.args.v.now c.requires.least c.requires.most (λ i. omega (arith, c.type_inv.v i))
