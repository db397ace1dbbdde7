use Rattle.world_model.proofs.Growing
use Rattle.world_model.proofs.Owning
use Rattle.world_model.proofs.threads.law_grows.Goals as goal

pub returns : goal.returns
returns g c = record { grows = λ kinds sites parts traces view state a. (λ v. Growing.part_traces kinds sites parts traces view state a v, λ m later s. Owning.grows kinds sites parts traces state a view m later s) }
