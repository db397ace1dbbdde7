use Rattle.one_run.proofs.Leases
use Rattle.one_run.proofs.law_leases.Goals as goal

pub returns : goal.returns
returns start = record { leases = Leases.law_leases }
