use Rattle.std.proofs.Common.{◌≡◌, ◌+◌, drop}
use Rattle.script_text.specs.Split.{outside}
use Rattle.script_text.specs.Front.{word_end}
use Rattle.script_text.proofs.split.end_of_few.Given as goal

abbrev pub invariant-loop-i : goal.invariant-loop-i
invariant-loop-i l = word_end outside l.bytes ≡ l.i + word_end outside (drop l.i l.bytes)
