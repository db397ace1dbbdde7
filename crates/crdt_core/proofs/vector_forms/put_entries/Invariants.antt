use Rattle.std.proofs.Common.{◌≡◌, ◌++◌, take}
use Rattle.std.specs.List.{flat_map}
use Rattle.field_codec.specs.Spelling.{number}
use Rattle.crdt_core.proofs.vector_forms.put_entries.Given as goal

abbrev pub invariant-loop-n : goal.invariant-loop-n
invariant-loop-n l = l.out.items ≡ l.fn.out.items ++ (number 1 l.width ++ flat_map (number 8) (take l.n-index l.v))
