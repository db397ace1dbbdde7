use Rattle.std.proofs.Common.{arith}
use Rattle.seat_rule.specs.Sizes.{places}
use Rattle.seat_rule.proofs.Appending.{appends}
use Rattle.seat_rule.proofs.appends.append.Goals as goal

pub fetch_add-requires : goal.fetch_add-requires
fetch_add-requires g c = let r = c.requires in (r.here.0, omega (arith, r.here.1, r.word), appends (g.F.Law.law c.args.traces.now.key) (places c.args.traces.now.key) g.E.Notes.like c.args.traces.now.table_id.slots c.args.seat.now.id c.args.word c.args.seat.now.me r.word r.writer r.may r.room)
