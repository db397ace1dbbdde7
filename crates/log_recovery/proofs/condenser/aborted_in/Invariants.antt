use Rattle.std.proofs.Common.{◌≡◌, reverse, take}
use Rattle.std.specs.HashSet.{contains}
use Rattle.site_vector.specs.declared.ids.TxId.{TxId}
use Rattle.site_vector.specs.Ids.{same_tx}
use Rattle.crdt_core.specs.Log.{aborted}
use Rattle.log_recovery.proofs.condenser.aborted_in.Given as goal

abbrev pub invariant-loop-next : goal.invariant-loop-next
invariant-loop-next g l = (u : TxId) → contains same_tx l.all u ≡ aborted (reverse (take l.next-index l.records)) u
