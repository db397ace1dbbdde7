use Rattle.std.proofs.Common.{arith}
use Rattle.seat_rule.specs.Sizes.{places}
use Rattle.seat_rule.proofs.Joining.{joins}
use Rattle.seat_rule.proofs.joins.join.Goals as goal

pub join_seat-requires : goal.join_seat-requires
join_seat-requires g c = (c.requires.here.0, c.requires.here.1, c.requires.free, omega (arith, c.requires.here.2), joins (g.F.Law.law c.args.traces.now.key) (places c.args.traces.now.key) c.args.seat.now.id c.args.seat.now.me.0 c.args.other.id c.args.other.me.0)
