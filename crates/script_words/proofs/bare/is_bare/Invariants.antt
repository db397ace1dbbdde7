use Rattle.std.proofs.Common.{◌≡◌, drop}
use Rattle.std.specs.List.{list_all}
use Rattle.script_words.specs.Bare.{is_bare_byte}
use Rattle.script_words.proofs.bare.is_bare.Given as goal

abbrev pub invariant-loop-byte : goal.invariant-loop-byte
invariant-loop-byte l = list_all is_bare_byte l.text ≡ list_all is_bare_byte (drop l.byte-index l.text)
