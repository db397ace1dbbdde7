use Rattle.std.proofs.Common.{rules}
use Rattle.crdt_sets.proofs.Lists.{each_ascending}
use Rattle.crdt_sets.proofs.texts.in_order.Goals as goal

pub returns : goal.returns
returns c = search (rules, each_ascending)
