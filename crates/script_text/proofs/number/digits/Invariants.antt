use Rattle.std.proofs.Common.{◌≡◌, ◌≤◌, drop}
use Rattle.std.specs.Prelude.{fold}
use Rattle.std.specs.List.{list_all}
use Rattle.std.specs.Char.{is_ascii_digit}
use Rattle.script_text.specs.Numbers.{value_of, with_digit}
use Rattle.script_text.proofs.number.digits.Given as goal

abbrev pub invariant-loop-byte : goal.invariant-loop-byte
invariant-loop-byte l =
    (value_of l.word ≡ fold with_digit l.n (drop l.byte-index l.word))
    × (list_all is_ascii_digit l.word ≡ list_all is_ascii_digit (drop l.byte-index l.word))
    × (l.n ≤ l.top)
