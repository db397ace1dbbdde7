use Rattle.std.proofs.Common.{arith, ◌≡◌, true, subst, sym, ◌+◌, ◌^◌, ◌%◌}
use Rattle.seat_rule.specs.Sizes.{places}
use Rattle.seat_rule.proofs.Drawing.{draws}
use Rattle.atomic_table.specs.Table.{Allows}
use Rattle.seat_rule.specs.Kept.{Kept}
use Rattle.seat_rule.specs.Lists.{has}
use Rattle.seat_rule.specs.Views.{taken}
use Rattle.seat_rule.proofs.draws.draw.Goals as goal

pub fetch_add-requires : goal.fetch_add-requires
fetch_add-requires g c = let r = c.requires in let me = c.args.seat.now.me in let n = places c.args.traces.now.key in (r.here.0, omega (arith, r.here.1, r.word), subst (λ w. Allows (Kept (g.F.Law.law c.args.traces.now.key) n) c.args.traces.now.table_id.slots c.args.seat.now.id me w (λ k. (k + 1) % 2 ^ 64) (λ k w. (k ≡ me.0.drawn) × (w ≡ (taken me.0, me.1)))) (sym r.word) (draws (g.F.Law.law c.args.traces.now.key) n c.args.traces.now.table_id.slots c.args.seat.now.id me (subst (λ w. has me.0.past.writes w ≡ true) r.word r.writer) r.room))
