use Rattle.field_codec.proofs.Forms.{keeps_more, on_err}
use Rattle.field_codec.proofs.members.put_members.Goals as goal

pub returns-in_err-put-clause-err : goal.returns-in_err-put-clause-err
returns-in_err-put-clause-err g c = on_err _ (keeps_more _ _ _ _ c.loop-member.invariant.written c.in_err-put.ensures.err)
