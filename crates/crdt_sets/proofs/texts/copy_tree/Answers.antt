use Rattle.std.specs.List.{each_same}
use Rattle.crdt_sets.proofs.texts.copy_tree.Goals as goal

pub returns : goal.returns
returns c = each_same _ _ c.in_ok-copied.ensures.cases
