use Rattle.std.proofs.Common.{arith, ◌≡◌, true, subst, sym}
use Rattle.atomic_table.specs.Table.{Allows}
use Rattle.seat_rule.specs.Kept.{Kept}
use Rattle.seat_rule.specs.Lists.{has}
use Rattle.seat_rule.specs.Notes.{AreDrawn}
use Rattle.seat_rule.specs.Sizes.{places}
use Rattle.seat_rule.proofs.Looking.{looks_at_numbers}
use Rattle.seat_rule.proofs.numbers.look_at_numbers.Goals as goal

pub load-requires : goal.load-requires
load-requires g c =
    let r = c.requires in
    let me = c.args.seat.now.me in
    let n = places c.args.traces.now.key in
    (r.here.0, omega (arith, r.here.1, r.word), subst (λ w. Allows (Kept (g.F.Law.law c.args.traces.now.key) n) c.args.traces.now.table_id.slots c.args.seat.now.id me w (λ k. k) (λ k w. AreDrawn me.0 × (w ≡ me))) (sym r.word) (looks_at_numbers (g.F.Law.law c.args.traces.now.key) n c.args.traces.now.table_id.slots c.args.seat.now.id me (subst (λ w. has me.0.past.writes w ≡ true) r.word r.writer)))
