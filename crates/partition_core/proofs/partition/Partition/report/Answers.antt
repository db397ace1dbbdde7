use Rattle.std.proofs.Common.{refl}
use Rattle.partition_core.specs.Bounds.{own_bound}
use Rattle.partition_core.proofs.Leasing.{unchanged}
use Rattle.partition_core.proofs.Bounding.{reports}
use Rattle.partition_core.proofs.partition.Partition.report.Goals as goal

pub returns : goal.returns
returns g c =
    let i = c.self.invariant.placed in
    unchanged _ _ _ _ _ c.self.view_is (reports _ _ (own_bound c.self.inside.clock.clock c.self.inside.prepared.entries) c.own_bounds.result refl c.own_bounds.ensures i.place.least_site i.place.most_site i.wide_bounds)
