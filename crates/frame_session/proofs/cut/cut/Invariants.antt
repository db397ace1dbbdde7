use Rattle.std.proofs.Common.{◌-◌, length, map}
use Rattle.frame_session.proofs.Fronts.{IsCut}
use Rattle.frame_session.proofs.cut.cut.Given as goal

abbrev pub invariant-loop-body : goal.invariant-loop-body
invariant-loop-body l = IsCut l.bytes (map (λ f. f.items) l.frames.items) l.done

abbrev pub decreases-loop-body : goal.decreases-loop-body
decreases-loop-body l = length l.bytes - l.done
