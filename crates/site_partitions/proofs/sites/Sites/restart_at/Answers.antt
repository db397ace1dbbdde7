use Rattle.site_partitions.proofs.Faulting.{restarted}
use Rattle.site_partitions.proofs.sites.Sites.restart_at.Goals as goal

pub returns : goal.returns
returns g c = restarted _ _ _ _ _ c.self.view_is c.self.invariant c.args.at c.requires _ c.index_of-i.ensures.index c.index_of-i.ensures.below _ _ c.index_mut.ensures.value c.restart.result c.restart.ensures
