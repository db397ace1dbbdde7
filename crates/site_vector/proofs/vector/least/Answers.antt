use Rattle.std.proofs.Common.{◌+◌, min, take, sym, ◌∙◌, length-set, arith}
use Rattle.site_vector.proofs.Along.{along_set, along_whole, meet_along}
use Rattle.site_vector.proofs.vector.least.Goals as goal

pub loop-i-preserved : goal.loop-i-preserved
loop-i-preserved c =
    let step = along_set min c.args.u.now c.args.v.now c.loop-i.met c.loop-i.i (omega arith) (omega arith) (omega arith) (c.loop-i.invariant.taken ∙ meet_along (take c.loop-i.i c.args.u.now) (take c.loop-i.i c.args.v.now)) in
    record {
      whole = rw length-set c.loop-i.invariant.whole;
      taken = rw c.min.ensures (step ∙ sym (meet_along (take (c.loop-i.i + 1) c.args.u.now) (take (c.loop-i.i + 1) c.args.v.now)));
    }

pub returns : goal.returns
returns c =
    along_whole min c.args.u.now c.args.v.now c.loop-i.met c.loop-i.i (omega arith) (omega arith) (omega arith) (c.loop-i.invariant.taken ∙ meet_along (take c.loop-i.i c.args.u.now) (take c.loop-i.i c.args.v.now)) ∙ sym (meet_along c.args.u.now c.args.v.now)
