use Rattle.std.proofs.Common.{◌≡◌, map}
use Rattle.reply_text.specs.Values.{members}
use Rattle.reply_text.specs.Texts.{texts_of, entries_of}
use Rattle.reply_text.proofs.value.+text.Given as goal

abbrev pub invariant-members_of-loop-field : goal.invariant-members_of-loop-field
invariant-members_of-loop-field l = entries_of l.members.entries ≡ members (texts_of (map (λ f. f.now) l.yielded))
