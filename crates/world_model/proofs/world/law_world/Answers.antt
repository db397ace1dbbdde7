use Rattle.world_model.proofs.Law
use Rattle.world_model.proofs.world.law_world.Goals as goal

pub returns : goal.returns
returns c start = record { law = λ kinds sites parts run state r. Law.law_world kinds sites parts run state r }
