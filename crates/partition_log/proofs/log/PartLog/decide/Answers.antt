use Rattle.std.proofs.Common.{◌∙◌}
use Rattle.crdt_core.specs.declared.record.Record.TheVariants.{Decide}
use Rattle.partition_log.proofs.log.PartLog.decide.Goals as goal

pub returns-clause-appends : goal.returns-clause-appends
returns-clause-appends g c = c.append_one.ensures.appends (Decide c.args.tx c.args.c.now) c.decide-short.ensures.spelled (c.as_slice.ensures ∙ c.decide-short.ensures.bytes)
