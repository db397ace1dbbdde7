use Rattle.world_model.specs.rules.Event.{led_by}
use Rattle.site_partitions.proofs.Asking.{prepare_width, prepare_unknown, prepare_put}
use Rattle.partition_lock.proofs.calls.votes.PrepareEffectPartitionCall.make.Goals as goal

pub prepare-requires-clause-width : goal.prepare-requires-clause-width
prepare-requires-clause-width g c = prepare_width _ _ _ _ _ c.args.self.now.tx c.args.self.now.s.now (led_by c.args.self.now.lead) c.args.self.now.updates.now c.requires.asked.3

pub prepare-requires-clause-unknown : goal.prepare-requires-clause-unknown
prepare-requires-clause-unknown g c = prepare_unknown _ _ _ _ _ c.args.self.now.tx c.args.self.now.s.now (led_by c.args.self.now.lead) c.args.self.now.updates.now c.requires.asked.3

pub prepare-requires-clause-spelled : goal.prepare-requires-clause-spelled
prepare-requires-clause-spelled g c time = prepare_put _ _ _ _ _ c.args.self.now.tx c.args.self.now.s.now (led_by c.args.self.now.lead) c.args.self.now.updates.now time c.requires.asked.3
