use Rattle.std.proofs.Common.{rules}
use Rattle.crdt_sets.proofs.elements.step.Goals as goal

pub returns-in-None : goal.returns-in-None
returns-in-None c = search rules
