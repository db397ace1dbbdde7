use Rattle.std.proofs.Common.{rules}
use Rattle.script_text.proofs.place.number.Goals as goal

pub returns : goal.returns
returns c = search rules
