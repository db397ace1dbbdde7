use Rattle.crdt_counters.specs.Exact.{exact_sums}
use Rattle.crdt_counters.proofs.exact.law_exact_sums.Goals as goal

pub returns : goal.returns
returns c = exact_sums
