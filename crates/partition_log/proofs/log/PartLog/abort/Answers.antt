use Rattle.std.proofs.Common.{◌∙◌}
use Rattle.crdt_core.specs.declared.record.Record.TheVariants.{Abort}
use Rattle.partition_log.proofs.log.PartLog.abort.Goals as goal

pub returns-clause-appends : goal.returns-clause-appends
returns-clause-appends g c = c.append_one.ensures.appends (Abort c.args.tx) c.abort-short.ensures.spelled (c.as_slice.ensures ∙ c.abort-short.ensures.bytes)
