use Rattle.std.proofs.Common.{arith}
use Rattle.kind_table.proofs.Fits.{read_fits, right}
use Rattle.kind_table.proofs.effects.taken.Goals as goal

pub put_again-requires : goal.put_again-requires
put_again-requires g c =
    let C = g.C.Crdt in
    right (C.is_of c.args.kind c.in-Ok.effect) (C.can_put c.in-Ok.effect)
    (read_fits (C.spells.form c.args.kind c.requires) c.args.bytes.now c.args.at c.in-Ok.effect c.in-Ok.end (λ i. omega (arith, c.type_inv.bytes i)) c.in-Ok.ensures.answer)
