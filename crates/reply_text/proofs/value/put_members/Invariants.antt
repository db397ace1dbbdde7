use Rattle.std.proofs.Common.{◌≡◌, ◌++◌, codes, length, nat_lt, map}
use Rattle.std.specs.List.{join_by}
use Rattle.reply_text.specs.Values.{member_text}
use Rattle.reply_text.specs.Texts.{entries_of}
use Rattle.reply_text.proofs.value.put_members.Given as goal

abbrev pub invariant-loop-member : goal.invariant-loop-member
invariant-loop-member l =
    (l.later ≡ nat_lt 0 (length l.yielded))
    × (l.out.items ≡ l.fn.out.items ++ join_by member_text (codes ",") (entries_of (map (λ m. (m.0.now, m.1.now)) l.yielded)))
