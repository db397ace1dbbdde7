use Rattle.std.proofs.Common.{◌+◌, ◌-◌}
use Rattle.client_pool.proofs.crowd.+run_clients.Given as goal

abbrev pub decreases-run_clients : goal.decreases-run_clients
decreases-run_clients g l = l.plan.clients + 1 - l.first
