use Rattle.std.proofs.Common.{ap, ◌∙◌, sym}
use Rattle.std.specs.Prelude.{◌==◌}
use Rattle.std.specs.FinMap as map
use Rattle.site_vector.specs.Order.{dot_cmp_total, dot_cmp_exact}
use Rattle.crdt_core.proofs.Trees.{len_again}
use Rattle.crdt_counters.proofs.summed.Summed.is_empty.Goals as goal

pub returns : goal.returns
returns c =
    let again = len_again dot_cmp_total dot_cmp_exact c.self.inside.amounts.entries c.len.ensures.ordered in
    ap (λ n. n == 0) (c.len.ensures.len ∙ sym again ∙ ap map.len c.self.view_is)
