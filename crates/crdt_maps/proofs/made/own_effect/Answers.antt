use Rattle.std.proofs.Common.{rules}
use Rattle.crdt_maps.proofs.made.own_effect.Goals as goal

pub returns-in-DropField-clause-made : goal.returns-in-DropField-clause-made
returns-in-DropField-clause-made g c = search rules
