use Rattle.std.proofs.Common.{ap, ◌∙◌, sym}
use Rattle.std.specs.FinMap as map
use Rattle.crdt_core.specs.FieldOrder.{field_cmp_total, field_cmp_exact}
use Rattle.crdt_core.proofs.Trees.{len_again}
use Rattle.crdt_maps.proofs.fields.Fields.len.Goals as goal

pub returns : goal.returns
returns g c = c.len.ensures.len ∙ sym (len_again field_cmp_total field_cmp_exact c.self.inside.fields.entries c.len.ensures.ordered) ∙ ap map.len c.self.view_is
