use Rattle.std.proofs.Common.{◌≤◌, length, sym, subst}
use Rattle.dc_engine.proofs.commands.Returned.{few_in, enough_in, returns_all}
use Rattle.dc_engine.proofs.player.makers.give_back_cluster.Goals as goal

pub give_back_all-requires-clause-few : goal.give_back_all-requires-clause-few
give_back_all-requires-clause-few g c = subst (λ l. length l ≤ 128) (sym c.into_partitions-partitions.ensures) (few_in c.args.cluster c.parts_or_none-parts.ensures.sized)

pub give_back_all-requires-clause-enough : goal.give_back_all-requires-clause-enough
give_back_all-requires-clause-enough g c = subst (λ l. length l ≤ (g.M.Disks.state c.args.disks.now).out) (sym c.into_partitions-partitions.ensures) (enough_in _ c.args.cluster (g.M.Disks.state c.args.disks.now).out c.parts_or_none-parts.ensures.sized c.requires)

pub returns : goal.returns
returns g c = returns_all c.args.cluster c.parts_or_none-parts.result c.into_partitions-partitions.result.items _ _ c.parts_or_none-parts.ensures.is c.into_partitions-partitions.ensures c.parts_or_none-parts.ensures.sized c.give_back_all.ensures
