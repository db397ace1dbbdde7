use Rattle.std.proofs.Common.{rules}
use Rattle.script_words.proofs.kinds.kind_name.Goals as goal

pub returns-in-FlagDw : goal.returns-in-FlagDw
returns-in-FlagDw c = search rules
