use Rattle.std.proofs.Common.{ap, sym, ◌∙◌}
use Rattle.crdt_core.specs.KindsOf.{kinds_of}
use Rattle.partition_core.proofs.Leasing.{opened_answer}
use Rattle.partition_core.proofs.EndCalls.{finishes_by, commits_home}
use Rattle.partition_core.proofs.partition.Partition.finish.Goals as goal

pub invariant_of-self : goal.invariant_of-self
invariant_of-self g c =
    let i = c.self.invariant in record {
      placed = i.placed;
      home = commits_home _ c.args.tx c.args.c.now _ _ _ _ c.commit.result c.commit.ensures.commits i.home;
      rooms = c.commit.ensures.rooms;
      store_sites = c.commit.ensures.sites ∙ i.store_sites;
      gossip_sites = i.gossip_sites;
      gossip_parts = i.gossip_parts;
    }

pub returns : goal.returns
returns g c = opened_answer (kinds_of g.C.Crdt.laws) _ _ _ _ _ _ _ c.self.view_is (finishes_by _ _ c.args.tx c.args.c.now c.commit.result _ _ (c.requires.place ∙ ap (λ x. x.id.site) (sym c.self.view_is)) c.commit.ensures.commits)
