use Rattle.std.proofs.Common.{rules}
use Rattle.std.proofs.lemmas.Int.{wraps}
use Rattle.crdt_counters.proofs.amounts.less.Goals as goal

pub returns : goal.returns
returns c = search (rules, wraps)
