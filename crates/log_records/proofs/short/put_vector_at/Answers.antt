use Rattle.std.proofs.Common.{arith}
use Rattle.crdt_core.proofs.VectorSteps.{vector_spelled}
use Rattle.log_records.proofs.short.put_vector_at.Goals as goal

pub returns-clause-spelled : goal.returns-clause-spelled
returns-clause-spelled c = vector_spelled c.args.v.now c.requires.least c.requires.most (λ i. omega (arith, c.type_inv.v i))
