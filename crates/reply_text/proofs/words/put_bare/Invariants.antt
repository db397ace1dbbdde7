use Rattle.std.proofs.Common.{◌≡◌, ◌+◌, ◌-◌, ◌≤◌, ◌++◌, length, take, drop, vec_len, vec_capacity}
use Rattle.std.specs.List.{list_all}
use Rattle.script_words.specs.Bare.{is_bare_byte}
use Rattle.reply_text.proofs.words.put_bare.Given as goal

abbrev pub invariant-loop-byte : goal.invariant-loop-byte
invariant-loop-byte l =
    (list_all is_bare_byte l.bytes ≡ list_all is_bare_byte (drop l.byte-index l.bytes))
    × ((l.out.items ≡ l.fn.out.items ++ take l.byte-index l.bytes) × (vec_len l.out + (length l.bytes - l.byte-index) ≤ vec_capacity l.out))
