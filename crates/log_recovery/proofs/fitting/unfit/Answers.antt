use Rattle.std.proofs.Common.{reverse, ◌∙◌}
use Rattle.crdt_core.specs.Log.{ceiling}
use Rattle.log_recovery.proofs.FateSteps.{rest_of}
use Rattle.log_recovery.proofs.Seeing.{seeing_starts, seeing_more, seeing_stops}
use Rattle.log_recovery.proofs.fitting.unfit.Goals as goal

pub loop-number-init : goal.loop-number-init
loop-number-init g c = seeing_starts c.args.sites c.args.parts c.args.id (ceiling (reverse c.args.records.now)) c.args.records.now c.new-seen.result c.new-seen.ensures.empty c.new-seen.ensures.sound c.new-seen.ensures.id c.new-seen.ensures.sites c.new-seen.ensures.parts (c.new-seen.ensures.top ∙ c.ceiling_of-top.ensures)

pub returns-then-not-branch : goal.returns-then-not-branch
returns-then-not-branch g c =
    let left = rest_of c.args.records.now c.loop-number.number c.index-records-number.result c.loop-number-test.true c.index-records-number.is in
    seeing_stops c.args.sites c.args.parts c.args.id (ceiling (reverse c.args.records.now)) (reverse c.args.records.now) c.loop-number.number _ _ c.index-records-number.result c.loop-number.seen left c.loop-number.invariant
    c.in_ok-see.field-0 c.if-not-branch.true c.in_ok-see.ensures.judges

pub loop-number-preserved : goal.loop-number-preserved
loop-number-preserved g c =
    let left = rest_of c.args.records.now c.loop-number.number c.index-records-number.result c.loop-number-test.true c.index-records-number.is in
    seeing_more c.args.sites c.args.parts c.args.id (ceiling (reverse c.args.records.now)) (reverse c.args.records.now) c.loop-number.number _ _ c.index-records-number.result c.loop-number.seen left c.loop-number.invariant
    c.see.new.self c.in_ok-see.field-0 c.if-not-branch.false c.in_ok-see.ensures.judges c.in_ok-see.ensures.sees (c.in_ok-see.ensures.sound c.if-not-branch.false) c.in_ok-see.ensures.same
