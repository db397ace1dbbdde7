use Rattle.disk_core.specs.Fuses.{fused_state}
use Rattle.site_partitions.specs.Reaches.{types_of}
use Rattle.site_partitions.proofs.Filling.{IsFilling}
use Rattle.site_partitions.proofs.make.Sites+C+Fused+D.new.Given as goal

abbrev pub invariant-loop-disk : goal.invariant-loop-disk
invariant-loop-disk g l = IsFilling (types_of g.C.Crdt.laws g.C.Crdt.spells (fused_state g.D.Disk.state)) l.sites l.parts l.fn.disks.items l.disk-iterator.rest.items l.partitions.items l.part
