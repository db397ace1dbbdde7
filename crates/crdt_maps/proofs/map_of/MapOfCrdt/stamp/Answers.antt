use Rattle.std.proofs.Common.{rules}
use Rattle.crdt_maps.proofs.map_of.MapOfCrdt.stamp.Goals as goal

pub returns-in-At : goal.returns-in-At
returns-in-At g c = search rules
