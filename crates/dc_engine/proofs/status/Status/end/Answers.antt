use Rattle.std.proofs.Common.{rules}
use Rattle.dc_engine.proofs.status.Status.end.Goals as goal

pub returns-clause-code : goal.returns-clause-code
returns-clause-code g c = search rules

pub returns-clause-told : goal.returns-clause-told
returns-clause-told g c = search rules
