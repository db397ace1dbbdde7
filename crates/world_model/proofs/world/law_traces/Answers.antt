use Rattle.world_model.proofs.Traces
use Rattle.world_model.proofs.world.law_traces.Goals as goal

pub returns : goal.returns
returns c start = record { traces = λ kinds sites parts run state r. Traces.traces kinds sites parts run state r }
