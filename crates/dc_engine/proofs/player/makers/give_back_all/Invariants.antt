use Rattle.std.specs.Prelude.{map}
use Rattle.dc_engine.specs.Makers.{disk_from}
use Rattle.dc_engine.proofs.commands.Returned.{IsGiving}
use Rattle.dc_engine.proofs.player.makers.give_back_all.Given as goal

abbrev pub invariant-loop-partition : goal.invariant-loop-partition
invariant-loop-partition g l = IsGiving l.parts (map disk_from l.fn.partitions.items) (g.M.Disks.state l.fn.disks) l.at (map disk_from l.partition-iterator.rest.items) (g.M.Disks.state l.disks)
