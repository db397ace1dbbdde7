use Rattle.std.proofs.Common.{◌≡◌, take}
use Rattle.log_recovery.proofs.shared.share_parts.Given as goal

abbrev pub invariant-loop-part : goal.invariant-loop-part
invariant-loop-part g l = l.all ≡ take l.part-index l.parts
