use Rattle.dc_engine.proofs.OneReply
use Rattle.dc_engine.proofs.laws.law_one_reply.Goals as goal

pub returns-clause-reply : goal.returns-clause-reply
returns-clause-reply c = OneReply.law_one_reply

pub returns-clause-calm : goal.returns-clause-calm
returns-clause-calm c = OneReply.law_one_calm_reply
