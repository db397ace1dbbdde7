use Rattle.std.proofs.Common.{ap, ◌∙◌}
use Rattle.std.specs.List.{list_any}
use Rattle.site_vector.specs.Order.{dot_cmp_total, dot_cmp_exact}
use Rattle.crdt_core.specs.MapLists.{entries_again}
use Rattle.crdt_core.proofs.KeptSteps.{first_of}
use Rattle.crdt_core.proofs.kept.is_first_marked.Goals as goal

pub returns-in-Some : goal.returns-in-Some
returns-in-Some c = λ is.
    ap (list_any (λ e. e.1)) (entries_again dot_cmp_total dot_cmp_exact c.args.entries.now.entries c.len.ensures.ordered)
    ∙ first_of c.args.entries.now.entries _ _ c.in-Some.ensures.first is
