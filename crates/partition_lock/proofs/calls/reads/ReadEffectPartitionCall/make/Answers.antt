use Rattle.site_partitions.proofs.Asking.{read_width}
use Rattle.partition_lock.proofs.calls.reads.ReadEffectPartitionCall.make.Goals as goal

pub read-requires-clause-width : goal.read-requires-clause-width
read-requires-clause-width g c = read_width _ _ _ _ _ c.args.self.now.tx c.args.self.now.s.now c.args.self.now.object.now c.args.self.now.own.now c.requires.asked.3
