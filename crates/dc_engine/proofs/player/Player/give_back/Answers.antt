use Rattle.std.proofs.Common.{sym, ap, subst}
use Rattle.dc_engine.specs.Held.{HasOut}
use Rattle.dc_engine.specs.Makers.{ReturnsAll}
use Rattle.dc_engine.proofs.player.Player.give_back.Goals as goal

pub give_back_cluster-requires : goal.give_back_cluster-requires
give_back_cluster-requires g c = subst (HasOut g.M.Disk.Disk.state (g.M.Disks.state c.args.disks.now).out) (sym (ap (λ p. p.cluster) c.self.view_is)) c.requires

pub returns : goal.returns
returns g c = subst (λ s. ReturnsAll s (g.M.Disks.state c.args.disks.now) (g.M.Disks.state c.give_back_cluster.new.disks)) (ap (λ p. p.cluster) c.self.view_is) c.give_back_cluster.ensures
