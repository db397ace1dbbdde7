use Rattle.std.proofs.Common.{rules}
use Rattle.reply_text.proofs.Front.{restarted_is}
use Rattle.reply_text.proofs.restarted.put_restarted.Goals as goal

pub returns-clause-ok : goal.returns-clause-ok
returns-clause-ok c = search (rules, restarted_is)
