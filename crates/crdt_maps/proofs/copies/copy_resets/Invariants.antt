use Rattle.std.proofs.Common.{◌≡◌, take}
use Rattle.crdt_maps.proofs.copies.copy_resets.Given as goal

abbrev pub invariant-loop-field : goal.invariant-loop-field
invariant-loop-field g l = l.copied ≡ take l.field-index l.resets
