use Rattle.std.proofs.Common.{◌≡◌, drop}
use Rattle.prepared_table.specs.Digest.{hashed}
use Rattle.prepared_table.proofs.digest.hash_on.Given as goal

abbrev pub invariant-loop-byte : goal.invariant-loop-byte
invariant-loop-byte l = hashed l.grown (drop l.byte-index l.bytes) ≡ hashed l.hash l.bytes
