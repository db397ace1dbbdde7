use Rattle.world_model.proofs.Going
use Rattle.world_model.proofs.threads.law_goes_on.Goals as goal

pub returns : goal.returns
returns g c = record { goes_on = λ kinds sites parts traces view state a. (λ ms o. Going.order_runs kinds sites parts traces view state a ms o, λ v base o. Going.part_goes_on kinds sites parts traces view state a v base o, λ m ms v e o. Going.step_goes_on kinds sites parts traces view state a m ms v e o) }
