use Rattle.std.proofs.Common.{◌<◌, length, arith}
use Rattle.effect_store.proofs.Visiting.{given_next, moves_on}
use Rattle.effect_store.proofs.updates.UpdatesIterator.next.Goals as goal

pub returns-clause-steps : goal.returns-clause-steps
returns-clause-steps g c =
    let n : c.next_wanted-at.result < length c.self.inside.links.now.entries.items = omega arith in
    given_next _ _ c.self.invariant.0 c.self.inside.object.now c.self.inside.outside _ _ _ _ _ _ c.self.view_is c.next_wanted-at.ensures.same n c.next_wanted-at.ensures.here c.index.ensures c.update_at.ensures.part c.update_at.ensures.update

pub returns-clause-goes : goal.returns-clause-goes
returns-clause-goes g c = moves_on _ _ _ _ (returns-clause-steps g c)
