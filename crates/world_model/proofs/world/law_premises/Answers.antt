use Rattle.world_model.proofs.Premises
use Rattle.world_model.proofs.world.law_premises.Goals as goal

pub returns : goal.returns
returns c start = record { premises = λ kinds sites parts run state r. Premises.premises kinds sites parts run state r }
