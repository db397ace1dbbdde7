use Rattle.site_partitions.proofs.Messages.{take_wide, take_apart, take_away, take_unheld, take_put}
use Rattle.partition_lock.proofs.calls.streams.TakeEffectPartitionCall.make.Goals as goal

pub take-requires-clause-wide : goal.take-requires-clause-wide
take-requires-clause-wide g c = take_wide _ _ _ _ _ c.args.self.now.number c.args.self.now.message.now c.requires.asked.3

pub take-requires-clause-apart : goal.take-requires-clause-apart
take-requires-clause-apart g c = take_apart _ _ _ _ _ c.args.self.now.number c.args.self.now.message.now c.requires.asked.3

pub take-requires-clause-away : goal.take-requires-clause-away
take-requires-clause-away g c = take_away _ _ _ _ _ c.args.self.now.number c.args.self.now.message.now c.requires.asked.3

pub take-requires-clause-not_held : goal.take-requires-clause-not_held
take-requires-clause-not_held g c = take_unheld _ _ _ _ _ c.args.self.now.number c.args.self.now.message.now c.requires.asked.3

pub take-requires-clause-spelled : goal.take-requires-clause-spelled
take-requires-clause-spelled g c = take_put _ _ _ _ _ c.args.self.now.number c.args.self.now.message.now c.requires.asked.3

pub returns-clause-called : goal.returns-clause-called
returns-clause-called g c = c.take.ensures c.args.self.now.number
