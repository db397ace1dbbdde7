use Rattle.std.proofs.Common.{ap, ◌∙◌}
use Rattle.prepared_table.specs.Digest.{marked}
use Rattle.prepared_table.proofs.Putting.{table_put}
use Rattle.prepared_table.proofs.prepared.put.Goals as goal

pub returns-clause-table : goal.returns-clause-table
returns-clause-table g c = table_put c.args.entries.now.items c.as_slice.result.now c.put_at.new.items.items c.args.digests.now.items c.put_at-2.new.items.items c.args.entry c.place-at.result c.digest_of-digest.result c.requires.table c.requires.fresh c.as_slice.ensures.value c.place-at.ensures.place (c.digest_of-digest.ensures ∙ ap (marked 0) c.as_slice-2.ensures) c.put_at.ensures.put c.put_at-2.ensures.put
