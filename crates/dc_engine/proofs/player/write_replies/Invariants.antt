use Rattle.std.proofs.Common.{◌≡◌, ◌++◌, take}
use Rattle.std.specs.List.{flat_map}
use Rattle.dc_engine.proofs.player.write_replies.Given as goal

abbrev pub invariant-loop-step : goal.invariant-loop-step
invariant-loop-step g l = l.out.items ≡ l.fn.out.items ++ flat_map (g.W.Writer.spelled l.number) (take l.step-index l.steps)
