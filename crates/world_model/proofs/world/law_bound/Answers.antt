use Rattle.world_model.proofs.Ends
use Rattle.world_model.proofs.world.law_bound.Goals as goal

pub returns : goal.returns
returns c = record { bound = record { own = λ now pending prepared b h. Ends.up_to now pending prepared b h; sent = λ too_deep meaning sites parts ls h. Ends.ends sites ls ls h.answers h.streams } }
