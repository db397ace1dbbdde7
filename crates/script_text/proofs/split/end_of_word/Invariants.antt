use Rattle.std.proofs.Common.{◌≡◌, ◌≤◌, ◌+◌, ◌-◌, length}
use Rattle.script_text.specs.Split.{outside}
use Rattle.script_text.specs.Front.{word_end}
use Rattle.script_text.proofs.split.end_of_word.Given as goal

abbrev pub invariant-loop-rest : goal.invariant-loop-rest
invariant-loop-rest l = (word_end outside l.bytes ≡ (length l.bytes - length l.rest) + word_end outside l.rest) × (length l.rest ≤ length l.bytes)

abbrev pub decreases-loop-rest : goal.decreases-loop-rest
decreases-loop-rest l = length l.rest
