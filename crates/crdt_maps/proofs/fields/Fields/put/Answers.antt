use Rattle.std.proofs.Common.{ap, ◌∙◌}
use Rattle.std.specs.FinMap as map
use Rattle.crdt_core.specs.MapLists.{one_given}
use Rattle.crdt_core.specs.FieldOrder.{field_cmp_total, field_cmp_exact}
use Rattle.crdt_maps.proofs.fields.Fields.put.Goals as goal

pub returns : goal.returns
returns g c = record {
  ok =
      one_given field_cmp_total field_cmp_exact c.self.inside.fields.entries c.insert.new.self.entries c.args.field c.args.state c.in_ok-insert.ensures.updates.0
      ∙ ap (λ m. map.insert m c.args.field c.args.state) c.self.view_is;
  err = tt;
}
