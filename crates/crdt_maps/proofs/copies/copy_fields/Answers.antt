use Rattle.std.proofs.Common.{◌≡◌, ap, ◌∙◌, subst}
use Rattle.std.specs.Prelude.{IfOk}
use Rattle.std.specs.FinMap.{empty, entries}
use Rattle.std.specs.Map.Iter.{deref_pair}
use Rattle.std.proofs.lemmas.Map.Iter.{rest_all}
use Rattle.crdt_maps.specs.Filled.{filled}
use Rattle.crdt_maps.proofs.FieldTrees.{all_again, grown}
use Rattle.crdt_maps.proofs.copies.copy_fields.Goals as goal

pub returns : goal.returns
returns g c =
    let none = rest_all deref_pair c.loop-field.field-iterator c.next.new.self c.next.result c.in-None.is c.next.ensures.steps in
    let all = grown (entries c.args.fields.now) c.loop-field.copied.items c.loop-field.field-iterator c.loop-field.invariant none in
    subst (λ m. IfOk c.of_list.result (λ f. f ≡ m)) (ap (filled empty) all ∙ all_again c.args.fields.now) c.of_list.ensures
