use Rattle.std.proofs.Common.{arith}
use Rattle.reply_text.proofs.Front.{pending_more}
use Rattle.reply_text.proofs.restarted.put_pending.Goals as goal

pub loop-tx-preserved : goal.loop-tx-preserved
loop-tx-preserved c = pending_more c.args.pending.now c.loop-tx.tx-index _ c.args.out.now.items _ _ (omega arith) c.loop-tx.invariant c.in_ok-put_one_pending.ensures.ok
