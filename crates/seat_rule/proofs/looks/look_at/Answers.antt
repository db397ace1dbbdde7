use Rattle.std.proofs.Common.{◌≡◌, arith, sym, subst}
use Rattle.atomic_table.specs.Table.{Allows}
use Rattle.seat_rule.specs.declared.rule.Size.{Size}
use Rattle.seat_rule.specs.Kept.{Kept}
use Rattle.seat_rule.specs.Laws.{Heard}
use Rattle.seat_rule.specs.Sizes.{places}
use Rattle.seat_rule.proofs.Looking.{looks}
use Rattle.seat_rule.proofs.looks.look_at.Goals as goal

pub load-requires : goal.load-requires
load-requires g c =
    let key = c.args.traces.now.key in
    let me = c.args.seat.now.me in
    let slots = c.args.traces.now.table_id.slots in
    let seat = c.args.seat.now.id in
    (c.requires.here.0, omega (arith, c.requires.here.1), subst (λ (z : Size). Allows (Kept (g.F.Law.law key) (places key)) slots seat me 0 (λ k. k) (λ k w. Heard (g.F.Law.law z) me.0 × (w ≡ me))) (sym c.requires.size) (looks (g.F.Law.law key) (places key) c.requires.parts slots seat me))

pub returns-clause-heard : goal.returns-clause-heard
returns-clause-heard g c = subst (λ (z : Size). Heard (g.F.Law.law z) c.args.seat.now.me.0) c.requires.size c.load.ensures.2.0
