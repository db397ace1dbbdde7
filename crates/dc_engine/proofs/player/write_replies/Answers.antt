use Rattle.std.proofs.Common.{◌∙◌, take}
use Rattle.std.specs.List.{flat_map}
use Rattle.dc_engine.proofs.commands.WrittenLines.{line_more, line_begun, on_err}
use Rattle.dc_engine.proofs.player.write_replies.Goals as goal

pub loop-step-preserved : goal.loop-step-preserved
loop-step-preserved g c =
    line_more (g.W.Writer.spelled c.args.number) c.args.steps.now c.loop-step.step-index c.step-item.result c.args.out.now.items c.loop-step.out.items c.write.new.out.items
    c.loop-step-test.true c.step-item.is c.loop-step.invariant c.in_ok-write.ensures.ok

pub returns-in_err-write-clause-err : goal.returns-in_err-write-clause-err
returns-in_err-write-clause-err g c =
    on_err _ _ (line_begun c.args.out.now.items (flat_map (g.W.Writer.spelled c.args.number) (take c.loop-step.step-index c.args.steps.now)) c.write.new.out.items (c.in_err-write.ensures.err ∙ c.loop-step.invariant))
