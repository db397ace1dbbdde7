use Rattle.site_partitions.proofs.Asking.{finish_width, finish_is_tx}
use Rattle.partition_lock.proofs.calls.votes.FinishPartitionCall.make.Goals as goal

pub finish-requires-clause-width : goal.finish-requires-clause-width
finish-requires-clause-width g c = finish_width _ _ _ _ _ c.args.self.now.tx c.args.self.now.c.now c.requires.asked.3

pub finish-requires-clause-spelled : goal.finish-requires-clause-spelled
finish-requires-clause-spelled g c = finish_is_tx _ _ _ _ _ c.args.self.now.tx c.args.self.now.c.now c.requires.asked.3
