use Rattle.crdt_meanings.proofs.StampsSeen.{above_seen, above_clock, at_last}
use Rattle.crdt_meanings.proofs.laws.law_stamps.Goals as goal

pub returns : goal.returns
returns c = record { seen = above_seen; clock = above_clock; last = at_last }
