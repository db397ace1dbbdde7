use Rattle.stable_gossip.proofs.Least.{IsLeast}
use Rattle.stable_gossip.proofs.matrix.least_of.Given as goal

abbrev pub invariant-loop-part : goal.invariant-loop-part
invariant-loop-part l = IsLeast l.own_part l.own l.heard l.part l.least
