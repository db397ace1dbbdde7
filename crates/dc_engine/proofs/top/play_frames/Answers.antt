use Rattle.dc_engine.specs.declared.framing.Framing.TheVariants as framing
use Rattle.dc_engine.proofs.bytes.PlayedBy.{outcome_in}
use Rattle.dc_engine.proofs.top.play_frames.Goals as goal

pub returns-in-Lines-clause-played : goal.returns-in-Lines-clause-played
returns-in-Lines-clause-played g c = outcome_in _ framing.Frames _ _ g.M.Disk.Disk.state _ _ _ _ _ c.in-Lines.is c.play_by.ensures.played

pub returns-in-Json-clause-played : goal.returns-in-Json-clause-played
returns-in-Json-clause-played g c = outcome_in _ framing.Frames _ _ g.M.Disk.Disk.state _ _ _ _ _ c.in-Json.is c.play_by-in-Json.ensures.played
