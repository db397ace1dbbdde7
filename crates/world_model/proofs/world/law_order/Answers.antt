use Rattle.world_model.proofs.Order
use Rattle.world_model.proofs.world.law_order.Goals as goal

pub returns : goal.returns
returns c = record { order = λ run c. Order.order run c }
