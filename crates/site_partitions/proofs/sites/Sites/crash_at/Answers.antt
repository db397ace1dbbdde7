use Rattle.site_partitions.proofs.Faulting.{crashed}
use Rattle.site_partitions.proofs.sites.Sites.crash_at.Goals as goal

pub returns : goal.returns
returns g c = crashed _ _ _ _ _ c.self.view_is c.self.invariant c.args.at c.requires _ c.index_of-i.ensures.index c.index_of-i.ensures.below _ _ c.index_mut.ensures.value c.crash.ensures.down c.crash.ensures.steps
