use Rattle.world_model.proofs.Asks
use Rattle.world_model.proofs.world.law_asks.Goals as goal

pub returns : goal.returns
returns c start = record { asks = λ sites parts run state e h w. Asks.asks sites parts run state e.at e.event h w }
