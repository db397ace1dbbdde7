use Rattle.std.proofs.Common.{◌≡◌, drop}
use Rattle.effect_store.specs.Spots.{hashed}
use Rattle.effect_store.proofs.tags.fed.Given as goal

abbrev pub invariant-loop-byte : goal.invariant-loop-byte
invariant-loop-byte l = hashed l.number (drop l.byte-index l.bytes) ≡ hashed l.fn.start l.fn.bytes
