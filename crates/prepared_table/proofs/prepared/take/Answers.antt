use Rattle.prepared_table.proofs.Putting.{taken_out, table_take}
use Rattle.prepared_table.proofs.prepared.take.Goals as goal

pub returns-clause-taken : goal.returns-clause-taken
returns-clause-taken g c = taken_out c.args.entries.now.items c.take_at-entry.new.items.items c.args.at c.take_at-entry.result c.take_at-entry.ensures.value c.take_at-entry.ensures.rest

pub returns-clause-table : goal.returns-clause-table
returns-clause-table g c = table_take c.args.entries.now.items c.take_at-entry.new.items.items c.args.digests.now.items c.take_at-digest.new.items.items c.args.at c.requires.table c.take_at-entry.ensures.rest c.take_at-digest.ensures.rest
