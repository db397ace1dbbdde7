use Rattle.crdt_maps.proofs.FieldTrees.{tree_filled}
use Rattle.crdt_maps.proofs.fields.Fields.of_list.Goals as goal

pub returns : goal.returns
returns g c = tree_filled c.args.listed.items c.in_ok-fields.fields.entries c.in_ok-fields.ensures.0
