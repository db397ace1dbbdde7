use Rattle.std.proofs.Common.{Some, cond, sym, ap, ◌∙◌}
use Rattle.crdt_core.specs.Parts.{lists}
use Rattle.log_recovery.specs.declared.named.Fate.TheVariants.{Ended}
use Rattle.log_recovery.specs.Fates.{fate_at, are_new}
use Rattle.log_recovery.proofs.FateSteps.{new_more, ended_more, none_from, rest_of}
use Rattle.log_recovery.proofs.seen.name_all.Goals as goal

pub loop-part-preserved : goal.loop-part-preserved
loop-part-preserved g c =
    let left = rest_of c.args.parts.now c.loop-part.part-index c.part-item.result c.loop-part-test.true c.part-item.is in
    let put = c.in_ok-end.ensures in
    let fresh = none_from c.fate.result (sym c.is_some.ensures ∙ c.if-is_some.false) ∙ c.fate.ensures in
    record {
      new = c.loop-part.invariant.new ∙ ap (λ l. are_new (fate_at c.loop-part.named) l) left ∙ new_more _ _ c.part-item.result _ fresh put;
      named = λ u. ended_more _ _ c.part-item.result _ put u ∙ ap (λ l. cond (lists l u) (Some Ended) (fate_at c.loop-part.named u)) (sym left) ∙ c.loop-part.invariant.named u;
    }
