use Rattle.crdt_meanings.proofs.ActLaws.{fits_shows, unfit_silent}
use Rattle.crdt_meanings.proofs.laws.law_acts.Goals as goal

pub returns : goal.returns
returns c = record { shows = fits_shows; silent = λ k a plain h kept. unfit_silent k a h kept }
