use Rattle.site_partitions.proofs.Starving.{starved_at}
use Rattle.site_partitions.proofs.sites.Sites.starved_at.Goals as goal

pub returns : goal.returns
returns g c = starved_at g.D.Disk.state _ _ _ _ c.self.view_is c.self.invariant c.args.at _ c.index_of-i.ensures.index c.index_of-i.ensures.below _ c.index.ensures c.starved.result c.starved.ensures
