use Rattle.site_partitions.proofs.Asking.{hear_width}
use Rattle.partition_lock.proofs.calls.streams.HearPartitionCall.make.Goals as goal

pub hear-requires-clause-width : goal.hear-requires-clause-width
hear-requires-clause-width g c = hear_width _ _ _ _ _ c.args.self.now.number c.args.self.now.part c.args.self.now.bounds.now c.requires.asked.3

pub returns-clause-called : goal.returns-clause-called
returns-clause-called g c = c.hear.ensures.answers c.args.self.now.number
