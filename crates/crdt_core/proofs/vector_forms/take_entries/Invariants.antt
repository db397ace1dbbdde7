use Rattle.std.proofs.Common.{◌≡◌, ◌≤◌, ◌-◌, true, length, take, None}
use Rattle.field_codec.specs.Spelling.{last_of}
use Rattle.field_codec.specs.Reading.{number_at, members_at}
use Rattle.field_codec.proofs.Loops.{after}
use Rattle.crdt_core.proofs.vector_forms.take_entries.Given as goal

abbrev pub invariant-loop-i : goal.invariant-loop-i
invariant-loop-i l = record {
  width : length l.v ≡ l.width;
  within : l.place ≤ length l.bytes;
  answer : after (take l.i l.v) (members_at (λ _ _. true) (number_at 8) (last_of (take l.i l.v)) (l.width - l.i) l.bytes l.place) ≡ members_at (λ _ _. true) (number_at 8) None l.width l.bytes l.at;
}
