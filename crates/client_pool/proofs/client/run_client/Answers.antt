use Rattle.std.proofs.Common.{◌≡◌, ap}
use Rattle.txn_session.specs.Session.{SessionState}
use Rattle.txn_session.proofs.Results.{ok_map}
use Rattle.client_pool.proofs.Loading.{has_load}
use Rattle.client_pool.proofs.client.run_client.Goals as goal

pub returns-clause-ok : goal.returns-clause-ok
returns-clause-ok g c =
    ok_map _ _ c.transactions.result.1
    (λ u m. has_load g.S.Store.sees g.S.Store.numbers c.args.store c.args.pass c.transactions.result.0 c.new-session.result c.transactions.new.session c.args.plan.now c.args.client (ap (λ (w : SessionState g.row.C-Effect.Denot). w.doing) c.new-session.ensures.session) c.new-session.ensures.holds m)
    c.transactions.ensures.ok
