use Rattle.std.proofs.Common.{map}
use Rattle.frame_session.proofs.Fronts.{cut_on}
use Rattle.frame_session.proofs.cut.cut.Goals as goal

pub loop-body-preserved : goal.loop-body-preserved
loop-body-preserved c = cut_on c.args.bytes.now c.in-Some.body.now (map (λ f. f.items) c.loop-body.frames.items) (map (λ f. f.items) c.put.new.frames.items) c.loop-body.done c.loop-body.invariant c.in-Some.ensures.some c.in_ok-put.ensures
