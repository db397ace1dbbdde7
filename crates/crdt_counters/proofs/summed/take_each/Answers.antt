use Rattle.std.proofs.Common.{ap, sym, ◌∙◌, rules, get_or, FitsSigned, to_z, w64, ◌-ℤ◌}
use Rattle.std.proofs.lemmas.List.{take_more}
use Rattle.std.proofs.lemmas.Int.{to_z-of_z}
use Rattle.std.specs.Int.{int_wrap, w128}
use Rattle.std.specs.FinMap.{remove, from_entries}
use Rattle.site_vector.specs.declared.ids.Dot.{Dot}
use Rattle.crdt_core.specs.Kept.{without}
use Rattle.crdt_core.proofs.KeptSteps.{without_none, without_more}
use Rattle.crdt_counters.specs.Total.{sum_of}
use Rattle.crdt_counters.proofs.Sums.{sum_gone}
use Rattle.crdt_counters.proofs.summed.take_each.Goals as goal

pub loop-dot-init : goal.loop-dot-init
loop-dot-init c = record {
  rest = sym (without_none _);
  total = to_z-of_z w128 c.args.total c.ranges.total ∙ c.requires;
}

pub loop-dot-preserved : goal.loop-dot-preserved
loop-dot-preserved c =
    let none : Dot = record { tx = record { site = 0; part = 0; time = 0 }; index = 0 } in
    let d : Dot = get_or c.args.dots.now c.loop-dot.dot-index none in
    let one : FitsSigned w64 c.take-gone.result = search rules in
    let off : FitsSigned w128 c.less-left.result = search rules in
    let gone = to_z-of_z w64 c.take-gone.result one ∙ c.take-gone.ensures.gone in
    let more = take_more c.args.dots.now c.loop-dot.dot-index none c.loop-dot-test.true in
    let less = c.less-left.ensures ∙ ap (λ n. int_wrap w128 (to_z w128 c.loop-dot.left-bits -ℤ n)) gone in
    record {
      rest =
          c.take-gone.ensures.rest ∙ ap (λ m. remove m d) c.loop-dot.invariant.rest ∙ without_more _ _ d
          ∙ ap (without (from_entries c.args.amounts.now.entries)) (sym more);
      total =
          to_z-of_z w128 c.less-left.result off
          ∙ sum_gone (from_entries c.loop-dot.amounts.entries) d _ _ c.loop-dot.invariant.total less
          ∙ ap sum_of (sym c.take-gone.ensures.rest);
    }
