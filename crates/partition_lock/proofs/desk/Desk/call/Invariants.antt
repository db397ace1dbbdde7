use Rattle.site_partitions.specs.Reaches.{types_of}
use Rattle.partition_lock.specs.Notes.{IsStepOf}
use Rattle.partition_lock.proofs.desk.Desk.call.Given as goal

abbrev pub ghosts-note : goal.ghosts-note
ghosts-note g a = record { like = IsStepOf (types_of g.C.Crdt.laws g.C.Crdt.spells g.D.Disk.state) g.J.Naming.sites g.J.Naming.parts a.id a.stamp a.by a.seat.now.me.0.past (g.K.PartitionCall.ask a.call.now) (g.K.PartitionCall.given a.call.now) (g.K.PartitionCall.shows a.call.now) a.answer.now a.partition.now }
