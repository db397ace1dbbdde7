use Rattle.std.proofs.Common.{arith}
use Rattle.client_pool.proofs.Lines.{loop_more}
use Rattle.client_pool.proofs.summary.put_sites.Goals as goal

pub loop-i-preserved : goal.loop-i-preserved
loop-i-preserved c =
    loop_more c.args.sums.now c.loop-i.i c.index-sums-i.result _ c.args.out.now.items _ _ (omega arith) c.index-sums-i.is c.loop-i.invariant c.in_ok-put_site.ensures
