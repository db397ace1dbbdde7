use Rattle.std.proofs.Common.{ap, ◌∙◌, sym}
use Rattle.std.specs.Prelude.{◌==◌}
use Rattle.std.specs.FinMap as map
use Rattle.crdt_core.specs.Texts.{text_cmp_total, text_cmp_exact}
use Rattle.crdt_core.proofs.Trees.{len_again}
use Rattle.crdt_sets.proofs.elements.Elements.is_empty.Goals as goal

pub returns : goal.returns
returns c = ap (λ n. n == 0) (c.len.ensures.len ∙ sym (len_again text_cmp_total text_cmp_exact c.self.inside.elements.entries c.len.ensures.ordered) ∙ ap map.len c.self.view_is)
