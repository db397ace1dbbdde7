use Rattle.std.proofs.Common.{◌*◌}
use Rattle.disk_core.specs.Fuses.{fused_state}
use Rattle.dc_engine.specs.Makers.{AreSure}
use Rattle.dc_engine.proofs.commands.Making.{IsMaking}
use Rattle.dc_engine.proofs.player.makers.make_all.Given as goal

abbrev pub invariant-loop-left : goal.invariant-loop-left
invariant-loop-left g l = record {
  making : IsMaking g.M.Disk.Disk.state (l.sites * l.parts) (g.M.Disks.state l.fn.disks) (g.M.Disks.state l.disks) l.made.items l.at l.left;
  sure : g.M.Disks.makes_all l.fn.disks → g.M.Disks.makes_all l.disks;
  sound : g.M.Disks.sound l.fn.disks → g.M.Disks.sound l.disks;
  all_sound : g.M.Disks.sound l.fn.disks → AreSure (fused_state g.M.Disk.Disk.state) l.made.items;
}

abbrev pub decreases-loop-left : goal.decreases-loop-left
decreases-loop-left g l = l.left
