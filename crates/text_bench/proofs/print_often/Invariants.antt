use Rattle.std.proofs.Common.{◌≡◌, length}
use Rattle.text_bench.specs.Printed.{lines, times_over}
use Rattle.text_bench.proofs.print_often.Given as goal

abbrev pub invariant-loop-pass : goal.invariant-loop-pass
invariant-loop-pass l = l.bytes ≡ times_over l._pass (length (lines l.steps))
