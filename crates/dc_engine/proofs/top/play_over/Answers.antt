use Rattle.std.proofs.Common.{arith}
use Rattle.dc_engine.proofs.commands.Applied.{out_more}
use Rattle.dc_engine.proofs.bytes.PlayedBy.{outcome_lawful}
use Rattle.dc_engine.proofs.top.play_over.Goals as goal

pub play_script-status-requires-clause-fresh : goal.play_script-status-requires-clause-fresh
play_script-status-requires-clause-fresh g c = c.new-player.ensures.reached

pub play_script-status-requires-clause-held : goal.play_script-status-requires-clause-held
play_script-status-requires-clause-held g c = (out_more _ _ 0 _ (omega arith) c.new-player.ensures.holds, c.requires.ground)

pub give_back-requires : goal.give_back-requires
give_back-requires g c = c.play_script-status.ensures.held.0

pub returns-clause-played : goal.returns-clause-played
returns-clause-played g c = outcome_lawful g.M.Disk.Disk.state g.G.Ground.sound g.F.Cutter.framing g.W.Writer.spelled _ _ _ _ _ _ _ c.play_script-status.ensures.same c.give_back.ensures c.play_script-status.ensures.played
