use Rattle.std.proofs.Common.{sym, subst}
use Rattle.disk_core.specs.Fuses.{fused_state}
use Rattle.site_partitions.specs.Made.{AreBlank}
use Rattle.dc_engine.specs.Makers.{AreSure}
use Rattle.dc_engine.proofs.commands.Making.{blank_more, sure_more}
use Rattle.dc_engine.proofs.player.makers.add.Goals as goal

pub returns-clause-blank : goal.returns-clause-blank
returns-clause-blank g c = λ b. subst (AreBlank (fused_state g.D.Disk.state)) (sym c.in_ok-push.ensures.items) (blank_more g.D.Disk.state c.args.made.now.items c.args.disk c.new.result c.requires c.new.ensures.state b)

pub returns-clause-sure : goal.returns-clause-sure
returns-clause-sure g c = λ sound s. subst (AreSure (fused_state g.D.Disk.state)) (sym c.in_ok-push.ensures.items) (sure_more g.D.Disk.state c.args.made.now.items c.args.disk c.new.result sound c.new.ensures.state s)
