use Rattle.std.proofs.Common.{◌+◌, reverse, drop, sym, ap, ◌∙◌, subst}
use Rattle.std.specs.Prelude.{◌++◌, ◌∷◌, []}
use Rattle.std.specs.HashSet.{contains}
use Rattle.site_vector.specs.Ids.{same_tx}
use Rattle.log_recovery.proofs.FateSteps.{rest_of}
use Rattle.log_recovery.proofs.Keeping.{IsKeeping, some_left, keeping_put, keeping_left}
use Rattle.log_recovery.proofs.condenser.keep.Goals as goal
use Rattle.log_recovery.proofs.condenser.keep.Goals.{then-stays+in_ok-share_record+in_ok-push, else-stays}

pub left_behind-left-requires : goal.left_behind-left-requires
left_behind-left-requires g c = some_left (contains same_tx c.args.dropped.now) (reverse c.args.records.now) _ _ c.next-item.result c.loop-next.left c.loop-next.all (rest_of c.args.records.now c.loop-next.next-index c.next-item.result c.loop-next-test.true c.next-item.is) c.loop-next.invariant

pub loop-next-preserved : goal.loop-next-preserved
loop-next-preserved g c =
    let r = c.next-item.result in
    let d = contains same_tx c.args.dropped.now in
    let whole = reverse c.args.records.now in
    let left = c.left_behind-left.result in
    let rest = drop (c.loop-next.next-index + 1) c.args.records.now in
    let next = rest_of c.args.records.now c.loop-next.next-index r c.loop-next-test.true c.next-item.is in
    elim c.if-stays.branch [
      | then-stays+in_ok-share_record+in_ok-push w ↦ subst (λ l. IsKeeping d whole rest left l) (sym (w.all-is ∙ w.in_ok-push.ensures.ok ∙ ap (λ x. c.loop-next.all ++ x ∷ []) w.in_ok-share_record.ensures))
          (keeping_put d whole _ rest r c.loop-next.left left c.loop-next.all next c.loop-next.invariant c.left_behind-left.ensures (sym c.stays.ensures ∙ w.if-stays.true))
      | else-stays w ↦ subst (λ l. IsKeeping d whole rest left l) (sym w.all-is) (keeping_left d whole _ rest r c.loop-next.left left c.loop-next.all next c.loop-next.invariant c.left_behind-left.ensures (sym c.stays.ensures ∙ w.if-stays.false))
    ]
