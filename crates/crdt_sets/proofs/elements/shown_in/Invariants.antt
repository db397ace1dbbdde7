use Rattle.std.proofs.Common.{◌≡◌, ◌++◌}
use Rattle.crdt_sets.proofs.Lists.{passing_of}
use Rattle.crdt_sets.proofs.elements.shown_in.Given as goal

abbrev pub invariant-loop-text : goal.invariant-loop-text
invariant-loop-text l = l.texts ++ passing_of l.removes_win l.text-iterator ≡ passing_of l.removes_win l.elements.entries
