use Rattle.std.proofs.Common.{◌≡◌, ◌≤◌, ◌<◌, ◌+◌, ℕ, arith, rules}
use Rattle.client_pool.proofs.Parting.{met_least, met_crowd, met_fault, no_crowd}
use Rattle.client_pool.proofs.crowd.+run_clients.Goals as goal

pub returns-then-first-plan-clause-ok : goal.returns-then-first-plan-clause-ok
returns-then-first-plan-clause-ok g t c =
    no_crowd g.S.Store.sees g.S.Store.numbers c.args.store c.args.pass c.args.plan c.args.first (omega (arith, c.if-first-plan.true))

pub returns-clause-least : goal.returns-clause-least
returns-clause-least g t c =
    met_least g.S.Store.sees g.S.Store.numbers c.args.store c.args.pass c.in-Ok.both.0 c.in-Ok.both.1 c.in-Ok.ensures.ok c.run_clients-rest.result.0 c.run_client-own.result.0 c.bring-pass.result c.bring-pass.ensures c.run_client-own.ensures.same c.run_clients-rest.ensures.least

pub returns-clause-ok : goal.returns-clause-ok
returns-clause-ok g t c =
    met_crowd g.S.Store.sees g.S.Store.numbers c.args.store c.args.pass c.in-Ok.both.0 c.in-Ok.both.1 c.in-Ok.ensures.ok c.run_clients-rest.result.0 c.run_client-own.result.0 c.bring-pass.result c.bring-pass.ensures c.run_client-own.ensures.same c.run_clients-rest.ensures.keeps
    (c.requires.shared.agrees c.args.store c.bring-pass.result) c.args.plan c.args.first (omega (arith, c.if-first-plan.false)) c.run_client-own.result.1 c.run_clients-rest.result.1 c.either.result c.either.ensures c.run_client-own.ensures.ok c.run_clients-rest.ensures.ok

pub returns-clause-err : goal.returns-clause-err
returns-clause-err g t c =
    met_fault g.S.Store.sees g.S.Store.numbers c.args.store c.args.pass c.in-Ok.both.0 c.in-Ok.both.1 c.in-Ok.ensures.ok c.run_clients-rest.result.0 c.run_client-own.result.0 c.bring-pass.result c.bring-pass.ensures c.run_client-own.ensures.same c.run_client-own.result.1 c.run_clients-rest.result.1 c.either.result c.either.ensures c.run_client-own.ensures.err c.run_clients-rest.ensures.err
