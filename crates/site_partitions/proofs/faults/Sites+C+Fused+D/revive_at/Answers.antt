use Rattle.site_partitions.proofs.Faulting.{revived}
use Rattle.site_partitions.proofs.faults.Sites+C+Fused+D.revive_at.Goals as goal

pub returns : goal.returns
returns g c = revived _ _ _ _ _ c.self.view_is c.self.invariant c.args.at c.requires _ c.index_of-i.ensures.index c.index_of-i.ensures.below _ _ c.index_mut.ensures.value c.revive.ensures.fired c.revive.ensures.burning c.revive.ensures.same c.revive.ensures.stands
