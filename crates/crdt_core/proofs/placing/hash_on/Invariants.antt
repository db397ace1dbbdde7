use Rattle.std.proofs.Common.{◌≡◌, ◌<◌, take}
use Rattle.crdt_core.specs.Placing.{hashed}
use Rattle.crdt_core.proofs.placing.hash_on.Given as goal

abbrev pub invariant-loop-byte : goal.invariant-loop-byte
invariant-loop-byte l = record { whole : l.grown ≡ hashed l.hash (take l.byte-index l.bytes); small : l.grown < 65536 }
