use Rattle.std.proofs.Common.{◌≡◌, true}
use Rattle.seat_rule.proofs.Parting
use Rattle.seat_rule.proofs.world.law_seats.Goals as goal

pub returns : goal.returns
returns g c = record { seats = λ event_of sites parts kinds ok. (Parting.none_lawful event_of sites parts kinds (λ e. ok e ≡ true), Parting.parts_lawful event_of sites parts kinds (λ e. ok e ≡ true)) }
