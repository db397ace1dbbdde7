use Rattle.std.proofs.Common.{ap, sym, ◌∙◌}
use Rattle.std.specs.FinMap as map
use Rattle.crdt_core.specs.MapLists.{get_at, one_gone}
use Rattle.crdt_core.specs.FieldOrder.{field_cmp_total, field_cmp_exact}
use Rattle.crdt_maps.proofs.fields.Fields.take.Goals as goal

pub returns-clause-state : goal.returns-clause-state
returns-clause-state g c =
    c.remove.ensures.value ∙ sym (get_at field_cmp_total field_cmp_exact c.self.inside.fields.entries c.args.field.now) ∙ ap (λ m. map.get m c.args.field.now) c.self.view_is

pub returns-clause-gone : goal.returns-clause-gone
returns-clause-gone g c =
    one_gone field_cmp_total field_cmp_exact c.self.inside.fields.entries c.remove.new.self.entries c.args.field.now c.remove.ensures.updates.0
    ∙ ap (λ m. map.remove m c.args.field.now) c.self.view_is
