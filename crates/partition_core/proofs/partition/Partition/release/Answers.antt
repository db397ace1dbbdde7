use Rattle.partition_core.proofs.Leasing.{opened}
use Rattle.partition_core.proofs.Releasing.{releases_from, other_here}
use Rattle.partition_core.proofs.partition.Partition.release.Goals as goal

pub returns-clause-sent : goal.returns-clause-sent
returns-clause-sent g c = opened _ _ _ _ _ _ c.self.view_is (releases_from _ _ c.args.to c.get.result c.own_bound-hi.result c.args.from c.in_ok-parts.parts c.with-self-inside.result c.start_of-lo.result (other_here _ _ c.args.to c.self.view_is c.requires) c.start_of-lo.ensures c.get.ensures c.own_bound-hi.ensures c.in_ok-parts.ensures c.with-self-inside.ensures)
