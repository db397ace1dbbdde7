use Rattle.std.proofs.Common.{◌∙◌}
use Rattle.crdt_core.specs.declared.record.Record.TheVariants.{Lease}
use Rattle.partition_log.proofs.log.PartLog.lease.Goals as goal

pub returns-clause-appends : goal.returns-clause-appends
returns-clause-appends g c = c.append_one.ensures.appends (Lease c.args.ceil) c.lease-short.ensures.spelled (c.as_slice.ensures ∙ c.lease-short.ensures.bytes)
