use Rattle.client_pool.proofs.Names.{all_names}
use Rattle.client_pool.proofs.laws.law_names.Goals as goal

pub returns : goal.returns
returns c = all_names
