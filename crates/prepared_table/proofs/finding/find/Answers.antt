use Rattle.std.proofs.Common.{sym, ◌∙◌}
use Rattle.prepared_table.proofs.Founds.{found_at}
use Rattle.prepared_table.proofs.finding.find.Goals as goal

pub returns-then-same : goal.returns-then-same
returns-then-same g c = found_at c.args.tx c.args.entries.now c.loop-i.i c.index-entries-i.result c.loop-i.invariant c.loop-i-test.true c.index-entries-i.is (sym c.same.ensures ∙ c.if-same.true)
