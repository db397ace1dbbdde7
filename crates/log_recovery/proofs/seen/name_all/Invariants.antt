use Rattle.std.proofs.Common.{◌≡◌, drop, Some, cond}
use Rattle.site_vector.specs.declared.ids.TxId.{TxId}
use Rattle.crdt_core.specs.Parts.{lists}
use Rattle.log_recovery.specs.declared.named.Fate.TheVariants.{Ended}
use Rattle.log_recovery.specs.Fates.{fate_at, are_new}
use Rattle.log_recovery.proofs.seen.name_all.Given as goal

abbrev pub invariant-loop-part : goal.invariant-loop-part
invariant-loop-part g l = record {
  new : are_new (fate_at l.fn.named) l.parts ≡ are_new (fate_at l.named) (drop l.part-index l.parts);
  named : (u : TxId) → cond (lists (drop l.part-index l.parts) u) (Some Ended) (fate_at l.named u) ≡ cond (lists l.parts u) (Some Ended) (fate_at l.fn.named u);
}
