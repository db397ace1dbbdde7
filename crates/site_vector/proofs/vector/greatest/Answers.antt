use Rattle.std.proofs.Common.{◌+◌, max, take, sym, ◌∙◌, length-set, arith}
use Rattle.site_vector.proofs.Along.{along_set, along_whole, join_along}
use Rattle.site_vector.proofs.vector.greatest.Goals as goal

pub loop-i-preserved : goal.loop-i-preserved
loop-i-preserved c =
    let step = along_set max c.args.u.now c.args.v.now c.loop-i.joined c.loop-i.i (omega arith) (omega arith) (omega arith) (c.loop-i.invariant.taken ∙ join_along (take c.loop-i.i c.args.u.now) (take c.loop-i.i c.args.v.now)) in
    record {
      whole = rw length-set c.loop-i.invariant.whole;
      taken = rw c.max.ensures (step ∙ sym (join_along (take (c.loop-i.i + 1) c.args.u.now) (take (c.loop-i.i + 1) c.args.v.now)));
    }

pub returns : goal.returns
returns c =
    along_whole max c.args.u.now c.args.v.now c.loop-i.joined c.loop-i.i (omega arith) (omega arith) (omega arith) (c.loop-i.invariant.taken ∙ join_along (take c.loop-i.i c.args.u.now) (take c.loop-i.i c.args.v.now)) ∙ sym (join_along c.args.u.now c.args.v.now)
