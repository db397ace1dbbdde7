use Rattle.std.proofs.Common.{true}
use Rattle.world_model.specs.rules.Event.{AskAbort}
use Rattle.site_partitions.proofs.Asking.{tx_of}
use Rattle.partition_lock.proofs.calls.votes.AbortOwnPartitionCall.make.Goals as goal

pub abort-requires : goal.abort-requires
abort-requires g c = tx_of _ _ _ _ _ (AskAbort c.args.self.now.tx) c.requires.asked.3 c.args.self.now.tx c.requires.asked.4

pub returns-clause-called : goal.returns-clause-called
returns-clause-called g c = c.abort.ensures.answers true
