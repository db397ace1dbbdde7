use Rattle.std.proofs.Common.{arith, decimal, codes, refl}
use Rattle.reply_text.proofs.Joined.{loop_more}
use Rattle.reply_text.proofs.words.put_times.Goals as goal

pub loop-i-preserved : goal.loop-i-preserved
loop-i-preserved c =
    loop_more decimal (codes ",") c.args.times.now c.loop-i.i _ 0 c.args.out.now.items _ _ (omega arith) refl c.loop-i.invariant c.in_ok-put_time.ensures.ok
