use Rattle.std.proofs.Common.{rules}
use Rattle.reply_text.proofs.Front.{front_kept}
use Rattle.reply_text.proofs.step.line.Goals as goal

pub returns-in-Err-clause-err : goal.returns-in-Err-clause-err
returns-in-Err-clause-err c = search (rules, front_kept)
