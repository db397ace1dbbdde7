use Rattle.std.proofs.Common.{◌≡◌, ◌++◌, take}
use Rattle.std.specs.List.{flat_map}
use Rattle.reply_text.specs.Updated.{pending_text}
use Rattle.reply_text.proofs.restarted.put_pending.Given as goal

abbrev pub invariant-loop-tx : goal.invariant-loop-tx
invariant-loop-tx l = l.out.items ≡ l.fn.out.items ++ flat_map pending_text (take l.tx-index l.pending)
