use Rattle.std.proofs.Common.{ap, ◌∙◌, sym, rules, FitsSigned, w64, pos}
use Rattle.std.specs.Prelude.{unwrap_or}
use Rattle.std.specs.FinMap.{insert, from_entries}
use Rattle.std.proofs.lemmas.Int.{to_z-of_z}
use Rattle.site_vector.specs.Order.{dot_cmp_total, dot_cmp_exact}
use Rattle.crdt_core.specs.MapLists.{one_given, get_at}
use Rattle.crdt_counters.proofs.summed.replace.Goals as goal

pub returns-clause-ok : goal.returns-clause-ok
returns-clause-ok c =
    let old = c.args.amounts.now.entries in
    let new = c.insert.new.self.entries in
    one_given dot_cmp_total dot_cmp_exact old new c.args.dot _ c.in_ok-before.ensures.updates.0
    ∙ ap (insert (from_entries old) c.args.dot) (to_z-of_z w64 c.args.amount c.ranges.amount)

pub returns-clause-before : goal.returns-clause-before
returns-clause-before c =
    let fits : FitsSigned w64 c.unwrap_or.result = search rules in
    let held = sym (get_at dot_cmp_total dot_cmp_exact c.args.amounts.now.entries c.args.dot) in
    to_z-of_z w64 c.unwrap_or.result fits ∙ c.unwrap_or.ensures
    ∙ ap (λ x. unwrap_or x (pos 0)) (c.in_ok-before.ensures.old ∙ held)
