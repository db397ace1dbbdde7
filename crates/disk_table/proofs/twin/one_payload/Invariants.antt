use Rattle.std.proofs.Common.{◌≡◌, take}
use Rattle.disk_table.proofs.twin.one_payload.Given as goal

abbrev pub invariant-loop-byte : goal.invariant-loop-byte
invariant-loop-byte l = l.payload ≡ take l.byte-index l.bytes
