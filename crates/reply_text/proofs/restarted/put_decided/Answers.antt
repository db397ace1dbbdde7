use Rattle.std.proofs.Common.{arith}
use Rattle.std.proofs.lemmas.Grind.{common_steps}
use Rattle.reply_text.proofs.restarted.put_decided.Goals as goal

pub returns-in_ok-put_byte-in-Some-clause-ok : goal.returns-in_ok-put_byte-in-Some-clause-ok
returns-in_ok-put_byte-in-Some-clause-ok c = grind (arith, common_steps)
