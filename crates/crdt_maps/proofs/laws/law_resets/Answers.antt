use Rattle.crdt_meanings.proofs.MapResets.{each_names}
use Rattle.crdt_maps.proofs.laws.law_resets.Goals as goal

pub returns : goal.returns
returns g c = let inner = g.I.Crdt in each_names inner.laws inner.in_maps inner.resets
