use Rattle.std.proofs.Common.{rules}
use Rattle.crdt_any.proofs.layer.LayerCrdt.is_too_deep.Goals as goal

pub returns-in-MapRr : goal.returns-in-MapRr
returns-in-MapRr g c = search rules
