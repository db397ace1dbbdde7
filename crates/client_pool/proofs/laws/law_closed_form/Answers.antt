use Rattle.client_pool.proofs.Sums.{closed_form}
use Rattle.client_pool.proofs.laws.law_closed_form.Goals as goal

pub returns : goal.returns
returns c = closed_form
