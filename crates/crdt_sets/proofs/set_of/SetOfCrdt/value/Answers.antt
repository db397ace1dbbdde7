use Rattle.std.proofs.Common.{rules}
use Rattle.crdt_sets.proofs.set_of.SetOfCrdt.value.Goals as goal

pub returns : goal.returns
returns g c = search rules
