use Rattle.gate_log.proofs.Steps.{is_log}
use Rattle.gate_log.proofs.laws.law_at_rest.Goals as goal

pub returns : goal.returns
returns c = λ disk end payloads rest image left. is_log disk.story.now payloads image rest.settled rest.log left
