use Rattle.std.proofs.Common.{◌≡◌, take}
use Rattle.std.specs.Prelude.{nat_lt}
use Rattle.std.specs.List.{list_all}
use Rattle.script_text.specs.Ascii.{is_ascii_byte}
use Rattle.script_text.proofs.is_ascii.Given as goal

abbrev pub invariant-loop-byte : goal.invariant-loop-byte
invariant-loop-byte l = list_all is_ascii_byte (take l.byte-index l.bytes) ≡ nat_lt l.greatest 128
