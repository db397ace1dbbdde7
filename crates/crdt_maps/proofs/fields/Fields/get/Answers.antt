use Rattle.std.proofs.Common.{ap, sym, ◌∙◌}
use Rattle.std.specs.FinMap as map
use Rattle.crdt_core.specs.MapLists.{get_at}
use Rattle.crdt_core.specs.FieldOrder.{field_cmp_total, field_cmp_exact}
use Rattle.crdt_maps.proofs.fields.Fields.get.Goals as goal

pub returns : goal.returns
returns g c =
    c.get.ensures.value ∙ sym (get_at field_cmp_total field_cmp_exact c.self.inside.fields.entries c.args.field.now) ∙ ap (λ m. map.get m c.args.field.now) c.self.view_is
