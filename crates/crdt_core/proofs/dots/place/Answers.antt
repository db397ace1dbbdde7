use Rattle.crdt_core.proofs.DotSet.{placed}
use Rattle.crdt_core.proofs.dots.place.Goals as goal

pub returns : goal.returns
returns c =
    let p = placed c.args.items.now c.args.dot c.binary_search.result c.requires c.binary_search.ensures.bound c.binary_search.ensures.position in
    record { found = p.found; same = p.same; in_range = p.in_range; absent = p.absent; gap = p.gap }
