use Rattle.dc_engine.proofs.bytes.PlayedBy.{outcome_kept, outcome_none}
use Rattle.dc_engine.proofs.top.play_by.Goals as goal

pub returns-then-is_err-clause-played : goal.returns-then-is_err-clause-played
returns-then-is_err-clause-played g c = outcome_none _ g.F.Cutter.framing g.W.Writer.spelled g.M.Disk.Disk.state _ _

pub returns-clause-played : goal.returns-clause-played
returns-clause-played g c = outcome_kept g.M.Disks.sound _ _ _ g.F.Cutter.framing g.W.Writer.spelled g.M.Disk.Disk.state _ _ _ _ _ _ c.keep_in.ensures.same c.keep_in.ensures.state c.play_over.ensures.played
