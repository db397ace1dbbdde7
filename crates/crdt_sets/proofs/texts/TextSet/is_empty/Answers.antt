use Rattle.std.proofs.Common.{ap, ◌∙◌, sym, length}
use Rattle.std.specs.Prelude.{◌==◌}
use Rattle.std.specs.FinMap as map
use Rattle.crdt_core.specs.Texts.{ascending_again}
use Rattle.crdt_sets.proofs.texts.TextSet.is_empty.Goals as goal

pub returns : goal.returns
returns c = ap (λ n. n == 0) (c.len.ensures.len ∙ ap length (sym (ascending_again c.self.inside.texts.keys c.len.ensures.ordered)) ∙ ap (λ s. length (map.keys s)) c.self.view_is)
