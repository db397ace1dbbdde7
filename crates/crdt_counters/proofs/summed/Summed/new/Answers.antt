use Rattle.std.proofs.Common.{ap, ◌∙◌, sym}
use Rattle.std.specs.Int.{int_wrap, w128}
use Rattle.site_vector.specs.Order.{dot_cmp_total, dot_cmp_exact}
use Rattle.crdt_core.specs.MapLists.{entries_again}
use Rattle.crdt_meanings.specs.CounterMeaning.{total_by}
use Rattle.crdt_meanings.proofs.Totals.{nothing_wraps}
use Rattle.crdt_counters.proofs.summed.Summed.new.Goals as goal

pub invariant_of-result : goal.invariant_of-result
invariant_of-result c =
    let again = entries_again dot_cmp_total dot_cmp_exact c.new.result.entries c.new.ensures.ordered in
    sym (ap (λ es. int_wrap w128 (total_by (λ e. e.1) es)) (again ∙ c.new.ensures.empty) ∙ nothing_wraps)
