use Rattle.std.proofs.Common.{refl}
use Rattle.frame_session.proofs.Fronts.{frame_first, rest_first, frame_short, rest_short}
use Rattle.frame_session.proofs.laws.law_frames.Goals as goal

pub returns-clause-frame : goal.returns-clause-frame
returns-clause-frame c = frame_first

pub returns-clause-behind : goal.returns-clause-behind
returns-clause-behind c = rest_first

pub returns-clause-short : goal.returns-clause-short
returns-clause-short c = λ high low body less. (frame_short high low body less, rest_short high low body less)

pub returns-clause-head : goal.returns-clause-head
returns-clause-head c = λ high. (refl, refl)

pub returns-clause-none : goal.returns-clause-none
returns-clause-none c = (refl, refl)
