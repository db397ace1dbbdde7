use Rattle.std.proofs.Common.{refl}
use Rattle.crdt_any.proofs.simple_state.SimpleState.set_aw.Goals as goal

pub returns-in-SetAw : goal.returns-in-SetAw
returns-in-SetAw c = rw c.in-SetAw.is refl
