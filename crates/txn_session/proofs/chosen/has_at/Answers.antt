use Rattle.std.proofs.Common.{sym, ap, ◌∙◌}
use Rattle.std.proofs.lemmas.Bool.{eq-eqb}
use Rattle.crdt_core.specs.Placing.{place_of}
use Rattle.crdt_core.specs.declared.record.Upd.{Upd}
use Rattle.txn_session.proofs.Counting.{some_there}
use Rattle.txn_session.proofs.chosen.has_at.Goals as goal

pub returns-then-partition_of-part : goal.returns-then-partition_of-part
returns-then-partition_of-part g c =
    let here = ap (λ (u : Upd g.row.C-Effect.Denot). place_of u.object.bucket u.object.key c.args.parts) (sym c.update-item.is) ∙ (sym c.partition_of.ensures.place ∙ c.if-partition_of-part.true) in
    some_there c.args.parts c.args.part c.args.updates.now c.loop-update.update-index c.update-item.result c.loop-update-test.true (eq-eqb _ _ here)
