use Rattle.dc_engine.proofs.bytes.Bodies.{bodies_are, rest_is}
use Rattle.dc_engine.proofs.laws.law_bodies.Goals as goal

pub returns-clause-bodies : goal.returns-clause-bodies
returns-clause-bodies c = bodies_are

pub returns-clause-rest : goal.returns-clause-rest
returns-clause-rest c = rest_is
