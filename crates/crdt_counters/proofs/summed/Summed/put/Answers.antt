use Rattle.std.proofs.Common.{ap, ◌∙◌, sym, rules, FitsSigned, w64, ◌+ℤ◌, ◌-ℤ◌}
use Rattle.std.specs.Int.{int_wrap, w128}
use Rattle.std.specs.FinMap.{insert, from_entries}
use Rattle.std.proofs.lemmas.Int.{to_z-of_z}
use Rattle.crdt_counters.specs.Total.{sum_of}
use Rattle.crdt_counters.proofs.Sums.{sum_put}
use Rattle.crdt_counters.proofs.summed.Summed.put.Goals as goal

pub invariant_of-self-2 : goal.invariant_of-self-2
invariant_of-self-2 c =
    let all : FitsSigned w128 c.self.inside.total = search rules in
    let one : FitsSigned w64 c.in_ok-before.before = search rules in
    let off : FitsSigned w128 c.less.result = search rules in
    let on : FitsSigned w128 c.sum-self-inside.result = search rules in
    let total = to_z-of_z w128 c.self.inside.total all in
    let before = to_z-of_z w64 c.in_ok-before.before one ∙ c.in_ok-before.ensures.before in
    let left = to_z-of_z w128 c.less.result off in
    let amount = to_z-of_z w64 c.args.amount c.ranges.amount in
    let less = c.less.ensures ∙ (λ i. int_wrap w128 (total i -ℤ before i)) in
    let sum = c.sum-self-inside.ensures ∙ (λ i. int_wrap w128 (left i +ℤ amount i)) in
    let old = from_entries c.self.inside.amounts.entries in
    to_z-of_z w128 c.sum-self-inside.result on
    ∙ sum_put old c.args.dot c.args.amount _ _ _ c.self.invariant less sum
    ∙ ap sum_of (sym (c.in_ok-before.ensures.ok ∙ ap (insert old c.args.dot) amount))
