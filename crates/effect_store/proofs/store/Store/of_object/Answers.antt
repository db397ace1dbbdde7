use Rattle.std.proofs.Common.{◌∙◌}
use Rattle.effect_store.proofs.Folding.{all_parts}
use Rattle.effect_store.proofs.store.Store.of_object.Goals as goal

pub returns : goal.returns
returns g c = c.updates.ensures ∙ all_parts c.args.object.now c.args.self.now.parts
