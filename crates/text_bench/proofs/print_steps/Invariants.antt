use Rattle.std.proofs.Common.{◌≡◌, take}
use Rattle.text_bench.specs.Printed.{lines}
use Rattle.text_bench.proofs.print_steps.Given as goal

abbrev pub invariant-loop-step : goal.invariant-loop-step
invariant-loop-step l = l.out.items ≡ lines (take l.step-index l.steps)
