use Rattle.world_model.proofs.Merging
use Rattle.world_model.proofs.threads.law_merged.Goals as goal

pub returns : goal.returns
returns g c = record { merged = λ kinds sites parts traces state a. Merging.law_merged kinds sites parts traces state a }
