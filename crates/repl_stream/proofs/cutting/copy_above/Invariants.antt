use Rattle.std.proofs.Common.{◌≡◌, ◌++◌, drop}
use Rattle.crdt_core.specs.Parts.{above}
use Rattle.repl_stream.proofs.cutting.copy_above.Given as goal

abbrev pub invariant-loop-part : goal.invariant-loop-part
invariant-loop-part g l = l.all ++ above l.site l.bound (drop l.part-index l.parts) ≡ above l.site l.bound l.parts
