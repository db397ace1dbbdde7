use Rattle.world_model.proofs.Told
use Rattle.world_model.proofs.world.law_told.Goals as goal

pub returns : goal.returns
returns c start = record { told = λ kinds sites parts run state r p. Told.told kinds sites parts run state r p }
