use Rattle.world_model.proofs.Joining
use Rattle.world_model.proofs.threads.law_joins.Goals as goal

pub returns : goal.returns
returns g c = record { joins = λ kinds sites parts traces view state a v. (λ other o. Joining.join_parts traces view other v o, λ numbers held. Joining.none_bears kinds sites parts traces view state a v numbers held, λ base o by n at event w mine h new. Joining.may_goes_on kinds sites parts traces view state a v base o by n at event w mine h new) }
