use Rattle.dc_engine.proofs.bytes.PlayedBy.{outcome_cut}
use Rattle.dc_engine.proofs.top.play_then.Goals as goal

pub returns-in-Lines-clause-played : goal.returns-in-Lines-clause-played
returns-in-Lines-clause-played g c = outcome_cut _ _ _ _ g.M.Disk.Disk.state _ _ _ _ _ c.in-Lines.is c.play_lines.ensures.played

pub returns-in-Frames-clause-played : goal.returns-in-Frames-clause-played
returns-in-Frames-clause-played g c = outcome_cut _ _ _ _ g.M.Disk.Disk.state _ _ _ _ _ c.in-Frames.is c.play_frames.ensures.played
