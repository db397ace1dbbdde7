use Rattle.std.proofs.Common.{refl, ap, ◌∙◌, arith}
use Rattle.log_recovery.specs.Lists.{still_there}
use Rattle.log_recovery.proofs.Choices.{when_ok}
use Rattle.log_recovery.proofs.Slots.{still_there_push, placed_alike, placed_push}
use Rattle.log_recovery.proofs.waiting.add.Goals as goal

pub returns-in_err-push-clause-placed : goal.returns-in_err-push-clause-placed
returns-in_err-push-clause-placed g c = placed_alike _ _ _ _ c.reserve.ensures.entries.2 c.in_err-push.ensures.items c.requires.placed

pub returns-clause-placed : goal.returns-clause-placed
returns-clause-placed g c =
    let put = (when_ok _ _ (c.insert-room_was_reserved.ensures.succeeds (omega (arith, c.in_ok-reserve.ensures.ok))) c.insert-room_was_reserved.ensures.updates).0 in
    let before = placed_alike _ _ _ c.args.slots.now.items c.reserve.ensures.entries.2 refl c.requires.placed in
    placed_alike _ _ _ _ (λ u. refl) c.in_ok-push.ensures.items (placed_push _ _ c.args.slots.now.items c.args.entry c.len-at.result before c.requires.fresh (omega arith) put)

pub returns-clause-ok : goal.returns-clause-ok
returns-clause-ok g c = ap (λ l. still_there l) c.in_ok-push.ensures.items ∙ still_there_push c.args.slots.now.items c.args.entry
