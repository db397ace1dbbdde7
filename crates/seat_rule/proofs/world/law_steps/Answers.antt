use Rattle.std.proofs.Common.{◌≡◌, true}
use Rattle.seat_rule.proofs.Adding
use Rattle.seat_rule.proofs.world.law_steps.Goals as goal

pub returns : goal.returns
returns g c = record { steps = λ event_of sites parts kinds ok all old l base p e k. (Adding.adds event_of sites parts kinds (λ e. ok e ≡ true) all old l base p e k, (Adding.more event_of sites parts kinds (λ e. ok e ≡ true) all old l base p e k, Adding.others event_of sites parts kinds (λ e. ok e ≡ true) all old l base p e k, Adding.goes_on event_of sites parts kinds (λ e. ok e ≡ true) all old l base p e k)) }
