use Rattle.std.proofs.Common.{rules}
use Rattle.crdt_flags.proofs.flag_of.FlagOfCrdt.is_blank.Goals as goal

pub returns : goal.returns
returns g c = search rules
