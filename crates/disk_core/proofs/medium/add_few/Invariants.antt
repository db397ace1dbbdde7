use Rattle.std.proofs.Common.{◌≡◌, ◌+◌, ◌-◌, ◌≤◌, ◌++◌, length, take, vec_len, vec_capacity}
use Rattle.disk_core.proofs.medium.add_few.Given as goal

abbrev pub invariant-loop-byte : goal.invariant-loop-byte
invariant-loop-byte l =
    (l.bytes.items ≡ l.fn.bytes.items ++ take l.byte-index l.piece) × ((vec_len l.bytes + (length l.piece - l.byte-index) ≤ vec_capacity l.bytes) × (vec_capacity l.bytes ≡ vec_capacity l.fn.bytes))
