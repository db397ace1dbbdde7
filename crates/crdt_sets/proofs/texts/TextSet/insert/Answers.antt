use Rattle.std.proofs.Common.{ap, ◌∙◌}
use Rattle.std.specs.FinMap as map
use Rattle.crdt_sets.proofs.Lists.{one_in}
use Rattle.crdt_sets.proofs.texts.TextSet.insert.Goals as goal

pub returns : goal.returns
returns c = record {
  ok = one_in c.self.inside.texts.keys c.insert.new.self.keys c.args.text c.in_ok-insert.ensures.updates.0 ∙ ap (λ s. map.insert s c.args.text tt) c.self.view_is;
  err = tt;
}
