use Rattle.std.proofs.Common.{◌≡◌, ◌+◌, drop}
use Rattle.script_text.specs.Front.{spaces}
use Rattle.script_text.proofs.split.spaces.Given as goal

abbrev pub invariant-loop-i : goal.invariant-loop-i
invariant-loop-i l = spaces l.bytes ≡ l.i + spaces (drop l.i l.bytes)
