use Rattle.std.proofs.Common.{rules}
use Rattle.dc_engine.proofs.status.Status.of.Goals as goal

pub returns-in-Err-clause-no_memory : goal.returns-in-Err-clause-no_memory
returns-in-Err-clause-no_memory c = search rules
