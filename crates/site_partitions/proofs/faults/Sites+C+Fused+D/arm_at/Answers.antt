use Rattle.site_partitions.proofs.Faulting.{armed}
use Rattle.site_partitions.proofs.faults.Sites+C+Fused+D.arm_at.Goals as goal

pub returns : goal.returns
returns g c = armed _ _ _ _ _ c.self.view_is c.self.invariant c.args.at c.requires _ c.index_of-i.ensures.index c.index_of-i.ensures.below _ _ c.index_mut.ensures.value c.args.k c.args.keep c.arm.ensures.armed c.arm.ensures.same c.arm.ensures.stands
