use Rattle.std.proofs.Common.{◌≡◌, ◌≤◌, ◌-◌, length, None}
use Rattle.field_codec.specs.Spelling.{last_of}
use Rattle.field_codec.specs.Reading.{members_at}
use Rattle.field_codec.proofs.Loops.{after}
use Rattle.field_codec.proofs.members.take_members.Given as goal

abbrev pub invariant-loop : goal.invariant-loop
invariant-loop g l = let F = g.F.Form in record {
  within : l.place ≤ length l.bytes;
  answer : after l.members (members_at (F.follows l.form) (F.reading l.form) (last_of l.members) (l.count - l.counter) l.bytes l.place) ≡ members_at (F.follows l.form) (F.reading l.form) None l.count l.bytes l.at;
}
