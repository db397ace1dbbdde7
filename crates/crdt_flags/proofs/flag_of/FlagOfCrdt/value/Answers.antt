use Rattle.std.proofs.Common.{rules}
use Rattle.crdt_flags.proofs.flag_of.FlagOfCrdt.value.Goals as goal

pub returns-then-this-ne0 : goal.returns-then-this-ne0
returns-then-this-ne0 g c = search rules
