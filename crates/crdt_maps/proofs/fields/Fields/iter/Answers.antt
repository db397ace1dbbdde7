use Rattle.std.proofs.Common.{ap, ◌∙◌, sym}
use Rattle.std.specs.FinMap as map
use Rattle.crdt_core.specs.FieldOrder.{field_cmp_total, field_cmp_exact}
use Rattle.crdt_core.specs.MapLists.{entries_again}
use Rattle.crdt_maps.proofs.fields.Fields.iter.Goals as goal

pub returns-clause-rest : goal.returns-clause-rest
returns-clause-rest g c = c.iter.ensures.rest ∙ sym (entries_again field_cmp_total field_cmp_exact c.self.inside.fields.entries c.iter.ensures.ordered) ∙ ap map.entries c.self.view_is
