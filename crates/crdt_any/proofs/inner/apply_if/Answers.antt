use Rattle.std.proofs.Common.{rules}
use Rattle.crdt_any.proofs.inner.apply_if.Goals as goal

pub returns-in-Some : goal.returns-in-Some
returns-in-Some g c = search rules
