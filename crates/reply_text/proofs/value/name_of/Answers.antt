use Rattle.std.proofs.Common.{rules}
use Rattle.reply_text.proofs.value.name_of.Goals as goal

pub returns : goal.returns
returns c = search rules
