use Rattle.std.proofs.Common.{arith}
use Rattle.seat_rule.specs.Sizes.{places}
use Rattle.seat_rule.proofs.Splitting.{shares}
use Rattle.seat_rule.proofs.splits.split_writer.Goals as goal

pub split_seat-requires : goal.split_seat-requires
split_seat-requires g c = (c.requires.here.0, omega (arith, c.requires.here.1), shares (g.F.Law.law c.args.traces.now.key) (places c.args.traces.now.key) c.args.seat.now.id c.args.seat.now.me.0 c.requires.once)
