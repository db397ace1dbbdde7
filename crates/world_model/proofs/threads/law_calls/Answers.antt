use Rattle.world_model.proofs.Calling
use Rattle.world_model.proofs.threads.law_calls.Goals as goal

pub returns : goal.returns
returns g c = record { calls = λ kinds sites parts. (Calling.no_traces kinds sites parts, λ traces view here state a base m later k. Calling.calls kinds sites parts traces view here state a base m later k) }
