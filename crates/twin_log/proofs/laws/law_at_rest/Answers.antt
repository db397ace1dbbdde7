use Rattle.twin_log.proofs.Holds.{log_left}
use Rattle.twin_log.proofs.laws.law_at_rest.Goals as goal

pub returns : goal.returns
returns c = λ disk spot payloads rest image left. log_left disk spot payloads image rest left
