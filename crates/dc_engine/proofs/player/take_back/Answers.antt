use Rattle.dc_engine.proofs.player.take_back.Goals as goal

pub returns : goal.returns
returns c = c.truncate.ensures.items
