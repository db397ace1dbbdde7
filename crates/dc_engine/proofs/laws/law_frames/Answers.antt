use Rattle.dc_engine.proofs.bytes.Frames.{frame_rest}
use Rattle.dc_engine.proofs.laws.law_frames.Goals as goal

pub returns-clause-rest : goal.returns-clause-rest
returns-clause-rest c = λ high low body less. frame_rest high low body less
