use Rattle.std.proofs.Common.{◌≡◌, ◌+◌, ◌*◌, ◌++◌, take}
use Rattle.std.specs.List.{flat_map}
use Rattle.field_codec.specs.Spelling.{number}
use Rattle.log_records.proofs.short.put_vector_at.Given as goal

abbrev pub invariant-loop-i : goal.invariant-loop-i
invariant-loop-i l = record {
  here : l.place ≡ l.at + 1 + 8 * l.i;
  put : take l.place l.bytes ≡ take l.at l.fn.bytes ++ (number 1 l.width ++ flat_map (number 8) (take l.i l.v));
}
