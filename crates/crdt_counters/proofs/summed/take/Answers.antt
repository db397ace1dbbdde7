use Rattle.std.proofs.Common.{ap, ◌∙◌, sym, rules, FitsSigned, w64, pos}
use Rattle.std.specs.Prelude.{unwrap_or}
use Rattle.std.proofs.lemmas.Int.{to_z-of_z}
use Rattle.site_vector.specs.Order.{dot_cmp_total, dot_cmp_exact}
use Rattle.crdt_core.specs.MapLists.{one_gone, get_at}
use Rattle.crdt_counters.proofs.summed.take.Goals as goal

pub returns-clause-rest : goal.returns-clause-rest
returns-clause-rest c =
    let old = c.args.amounts.now.entries in
    let new = c.remove.new.self.entries in
    one_gone dot_cmp_total dot_cmp_exact old new c.args.dot c.remove.ensures.updates.0

pub returns-clause-gone : goal.returns-clause-gone
returns-clause-gone c =
    let fits : FitsSigned w64 c.unwrap_or.result = search rules in
    let held = sym (get_at dot_cmp_total dot_cmp_exact c.args.amounts.now.entries c.args.dot) in
    to_z-of_z w64 c.unwrap_or.result fits ∙ c.unwrap_or.ensures
    ∙ ap (λ x. unwrap_or x (pos 0)) (c.remove.ensures.value ∙ held)
