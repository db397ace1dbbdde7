use Rattle.site_partitions.specs.Reaches.{types_of}
use Rattle.site_partitions.proofs.Finding.{down_at}
use Rattle.site_partitions.proofs.Starving.{up_at}
use Rattle.site_partitions.proofs.sites.Sites.is_down_at.Goals as goal

pub returns-clause-down : goal.returns-clause-down
returns-clause-down g c = down_at _ _ _ _ c.self.view_is c.self.invariant c.args.at _ c.index_of-i.ensures.index c.index_of-i.ensures.below _ c.index.ensures c.is_down.result c.is_down.ensures

pub returns-clause-up : goal.returns-clause-up
returns-clause-up g c = up_at (types_of g.C.Crdt.laws g.C.Crdt.spells g.D.Disk.state) _ _ _ _ c.self.view_is c.self.invariant c.args.at c.requires _ c.index_of-i.ensures.index c.index_of-i.ensures.below _ c.index.ensures c.is_down.result c.is_down.ensures
