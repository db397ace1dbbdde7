use Rattle.std.specs.Prelude.{map}
use Rattle.disk_core.specs.Fuses.{inside}
use Rattle.dc_engine.proofs.commands.Returned.{IsGiving}
use Rattle.dc_engine.proofs.player.makers.give_back_made.Given as goal

abbrev pub invariant-loop-disk : goal.invariant-loop-disk
invariant-loop-disk g l = record {
  giving : IsGiving l.parts (map inside l.fn.made.items) (g.M.Disks.state l.fn.disks) l.at (map inside l.disk-iterator.rest.items) (g.M.Disks.state l.disks);
  sure : g.M.Disks.makes_all l.fn.disks → g.M.Disks.makes_all l.disks;
  sound : g.M.Disks.sound l.fn.disks → g.M.Disks.sound l.disks;
}
