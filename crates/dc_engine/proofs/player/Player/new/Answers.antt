use Rattle.std.proofs.Common.{refl}
use Rattle.dc_engine.proofs.commands.Applied.{reached_none, out_first}
use Rattle.dc_engine.proofs.player.Player.new.Goals as goal

pub returns-clause-reached : goal.returns-clause-reached
returns-clause-reached g c = reached_none g.M.Disk.Disk.state g.G.Ground.sound g.F.Cutter.framing g.W.Writer.spelled _ c.new.ensures refl refl

pub returns-clause-holds : goal.returns-clause-holds
returns-clause-holds g c = out_first _ _ 0 c.new.ensures
