use Rattle.std.proofs.Common.{sym, ◌∙◌}
use Rattle.prepared_table.proofs.Places.{place_late, place_first}
use Rattle.prepared_table.proofs.placing.place.Goals as goal

pub returns-then-not-comes_before-clause-place : goal.returns-then-not-comes_before-clause-place
returns-then-not-comes_before-clause-place g c = place_late c.args.entry.now c.args.entries.now c.loop-passed.passed c.index-entries-at.result c.requires c.loop-passed-test.true c.index-entries-at.is (sym c.comes_before.ensures ∙ c.if-not-comes_before.true) c.loop-passed.invariant

pub returns-clause-place : goal.returns-clause-place
returns-clause-place g c = place_first c.args.entry.now c.args.entries.now c.loop-passed.passed c.loop-passed-test.false c.loop-passed.invariant
