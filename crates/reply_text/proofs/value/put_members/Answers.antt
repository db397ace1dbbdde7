use Rattle.std.proofs.Common.{rules}
use Rattle.reply_text.proofs.Joined.{members_more, some_now}
use Rattle.reply_text.proofs.value.put_members.Goals as goal

pub loop-member-preserved : goal.loop-member-preserved
loop-member-preserved c =
    (some_now _ _, members_more c.loop-member.yielded c.in-Some.member c.in-Some.value c.args.out.now.items _ _ _ _ c.loop-member.invariant.0 c.loop-member.invariant.1 (search rules) c.in_ok-put_member.ensures.ok)
