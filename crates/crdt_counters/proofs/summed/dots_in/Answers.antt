use Rattle.std.proofs.Common.{◌++◌, ap, sym, ◌∙◌}
use Rattle.std.specs.Map.{keys_of}
use Rattle.std.specs.Map.Iter.{deref}
use Rattle.std.proofs.lemmas.List.{append-nil}
use Rattle.std.proofs.lemmas.Map.Iter.{rest_more, rest_all}
use Rattle.site_vector.specs.Order.{dot_cmp_total, dot_cmp_exact}
use Rattle.crdt_core.proofs.Trees.{keys_again}
use Rattle.crdt_counters.proofs.Ascending.{one_more}
use Rattle.crdt_counters.proofs.summed.dots_in.Goals as goal

pub loop-dot-preserved : goal.loop-dot-preserved
loop-dot-preserved c =
    let it = c.loop-dot.dot-iterator in
    let rest = c.next.new.self in
    let all = keys_of c.args.amounts.now.entries in
    let first = rest_more deref it rest c.next.result c.in-Some.dot c.in-Some.is c.next.ensures.steps in
    let ordered = c.keys-dot-items.ensures.ordered in
    one_more dot_cmp_total all c.loop-dot.dots it c.in-Some.dot.now rest c.insert.new.self ordered
    first c.loop-dot.invariant c.in_ok-insert.ensures.ok

pub returns : goal.returns
returns c =
    let it = c.loop-dot.dot-iterator in
    let none = rest_all deref it c.next.new.self c.next.result c.in-None.is c.next.ensures.steps in
    let ordered = c.keys-dot-items.ensures.ordered in
    sym (append-nil c.loop-dot.dots) ∙ ap (λ l. c.loop-dot.dots ++ l) (sym none)
    ∙ c.loop-dot.invariant ∙ sym (keys_again dot_cmp_total dot_cmp_exact c.args.amounts.now.entries ordered)
