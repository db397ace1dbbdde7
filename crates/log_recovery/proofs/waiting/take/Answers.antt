use Rattle.std.proofs.Common.{refl, sym, subst}
use Rattle.log_recovery.specs.Lists.{still_there}
use Rattle.prepared_table.specs.Entries.{IsTakenOut}
use Rattle.log_recovery.proofs.Slots.{placed_alike, placed_there, placed_empty, emptied}
use Rattle.log_recovery.proofs.waiting.take.Goals as goal

pub unreachable-requires : goal.unreachable-requires
unreachable-requires g c = placed_there _ _ c.args.tx c.requires.placed c.requires.waits c.in-None.ensures.value

pub returns-clause-placed : goal.returns-clause-placed
returns-clause-placed g c =
    let there = c.requires.placed.found c.args.tx c.in-Some.at (sym c.in-Some.ensures.value) in
    c.trim.ensures.placed _ (placed_alike _ _ _ _ (λ u. refl) c.empty-entry.ensures.emptied (placed_empty _ _ _ c.args.tx c.in-Some.at there.0 c.requires.placed there.1 there.2 (sym c.in-Some.ensures.value) c.in-Some.ensures.updates.0))

pub returns-clause-taken : goal.returns-clause-taken
returns-clause-taken g c = subst (λ l. IsTakenOut c.empty-entry.result (still_there c.args.slots.now.items) l) (sym c.trim.ensures.still_there)
    (subst (λ l. IsTakenOut c.empty-entry.result (still_there c.args.slots.now.items) (still_there l)) (sym c.empty-entry.ensures.emptied) (emptied _ c.in-Some.at c.empty-entry.result c.empty-entry.ensures.there))
