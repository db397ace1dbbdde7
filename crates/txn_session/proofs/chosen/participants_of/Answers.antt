use Rattle.std.proofs.Common.{◌<◌, ◌≤◌, ◌+◌, length, ap, ◌∙◌, arith}
use Rattle.std.proofs.lemmas.List.{length-set}
use Rattle.txn_session.proofs.Counting.{count_rises, count_stays}
use Rattle.txn_session.proofs.chosen.participants_of.Goals as goal
use Rattle.txn_session.proofs.chosen.participants_of.Goals.{then-has_at, else-has_at}

pub loop-k-preserved : goal.loop-k-preserved
loop-k-preserved g c =
    let i = c.loop-k.invariant in
    let most = c.requires.most in
    let low : c.loop-k.count < length c.loop-k.list = omega arith in
    let kept : c.loop-k.count ≤ c.loop-k.k = i.low in
    elim c.if-has_at.branch [
      | then-has_at w ↦ let n = w.count-is in record {
        room = ap length w.list-is ∙ (length-set c.loop-k.list c.loop-k.count (c.loop-k.k + 1) ∙ i.room);
        low = omega arith;
        listed = count_rises c.args.parts c.args.updates.now c.loop-k.list c.if-has_at.list c.loop-k.count c.if-has_at.count c.loop-k.k low i.listed w.list-is w.count-is w.if-has_at.ensures;
      }
      | else-has_at w ↦ let n = w.count-is in record {
        room = ap length w.list-is ∙ i.room;
        low = omega arith;
        listed = count_stays c.args.parts c.args.updates.now c.loop-k.list c.if-has_at.list c.loop-k.count c.if-has_at.count c.loop-k.k i.listed w.list-is w.count-is w.if-has_at.ensures;
      }
    ]
