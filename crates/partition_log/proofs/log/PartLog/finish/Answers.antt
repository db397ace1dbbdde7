use Rattle.std.proofs.Common.{◌∙◌}
use Rattle.crdt_core.specs.declared.record.Record.TheVariants.{Finish}
use Rattle.partition_log.proofs.log.PartLog.finish.Goals as goal

pub returns-clause-appends : goal.returns-clause-appends
returns-clause-appends g c = c.append_one.ensures.appends (Finish c.args.tx c.args.c.now) c.finish-short.ensures.spelled (c.as_slice.ensures ∙ c.finish-short.ensures.bytes)
