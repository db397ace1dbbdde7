use Rattle.partition_core.proofs.Leasing.{opened}
use Rattle.partition_core.proofs.EndCalls.{aborts}
use Rattle.partition_core.proofs.Rooms.{aborted_room, still_has}
use Rattle.partition_core.proofs.partition.Partition.abort.Goals as goal

pub invariant_of-self : goal.invariant_of-self
invariant_of-self g c =
    let i = c.self.invariant in
    let m = c.in-Some.ensures in record {
      placed = i.placed;
      home = λ u k. i.home u (still_has _ _ _ m.1 u k);
      rooms = aborted_room _ _ _ m.1 _ _ _ i.rooms m.2;
      store_sites = i.store_sites;
      gossip_sites = i.gossip_sites;
      gossip_parts = i.gossip_parts;
    }

pub returns-in-Some : goal.returns-in-Some
returns-in-Some g c = λ own. opened _ _ _ _ _ _ c.self.view_is (aborts _ _ c.in-Some._entry c.args.tx own c.take_out.new.prepared.entries c.in-Some.ensures.0 c.in-Some.ensures.1)
