use Rattle.site_partitions.proofs.Asking.{decide_site, decide_width, decide_is_tx}
use Rattle.partition_lock.proofs.calls.votes.DecidePartitionCall.make.Goals as goal

pub decide-requires-clause-place : goal.decide-requires-clause-place
decide-requires-clause-place g c = decide_site _ _ _ _ _ c.args.self.now.tx c.args.self.now.c.now c.requires.asked.3

pub decide-requires-clause-width : goal.decide-requires-clause-width
decide-requires-clause-width g c = decide_width _ _ _ _ _ c.args.self.now.tx c.args.self.now.c.now c.requires.asked.3

pub decide-requires-clause-spelled : goal.decide-requires-clause-spelled
decide-requires-clause-spelled g c = decide_is_tx _ _ _ _ _ c.args.self.now.tx c.args.self.now.c.now c.requires.asked.3
