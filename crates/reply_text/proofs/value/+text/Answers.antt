use Rattle.std.proofs.Common.{rules}
use Rattle.reply_text.proofs.Joined.{field_more}
use Rattle.reply_text.proofs.value.+text.Goals as goal

pub members_of-loop-field-preserved-in_ok-insert :
    goal.members_of-loop-field-preserved-in_ok-insert
members_of-loop-field-preserved-in_ok-insert t c =
    field_more c.loop-field.yielded c.in-Some.field-0 _ _ _ _ c.loop-field.invariant (search rules) (search rules) c.in_ok-insert.ensures.entries

pub members_of-loop-field-preserved : goal.members_of-loop-field-preserved
members_of-loop-field-preserved t c =
    field_more c.loop-field.yielded c.in-Some.field-0 _ _ _ _ c.loop-field.invariant (search rules) (search rules) c.in_ok-insert.ensures.entries
