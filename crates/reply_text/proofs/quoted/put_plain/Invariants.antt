use Rattle.std.proofs.Common.{◌≡◌, ◌+◌, ◌-◌, ◌<◌, ◌++◌, length, take, drop, vec_len, vec_capacity}
use Rattle.script_words.specs.Plain as plain
use Rattle.reply_text.proofs.quoted.put_plain.Given as goal

abbrev pub invariant-loop-byte : goal.invariant-loop-byte
invariant-loop-byte l =
    (plain.is_plain l.bytes ≡ plain.is_plain (drop l.byte-index l.bytes))
    × ((l.out.items ≡ l.fn.out.items ++ take l.byte-index l.bytes) × (vec_len l.out + (length l.bytes - l.byte-index) < vec_capacity l.out))
