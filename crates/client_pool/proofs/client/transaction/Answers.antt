use Rattle.std.proofs.Common.{◌≡◌, List, refl, sym, ap, ◌∙◌, subst}
use Rattle.std.specs.Prelude.{IfOk}
use Rattle.txn_session.proofs.Results.{ok_map}
use Rattle.client_pool.specs.Commits.{place}
use Rattle.client_pool.specs.Works.{work_done}
use Rattle.client_pool.proofs.Working.{came_as}
use Rattle.client_pool.proofs.client.transaction.Goals as goal

pub returns-clause-ok : goal.returns-clause-ok
returns-clause-ok g c =
    ok_map _ _ c.act.result.1
    (λ u x. (x.0, came_as g.S.Store.sees g.S.Store.numbers c.args.store c.args.pass c.act.result.0 c.args.session.now c.act.new.session _ _ (λ k. work_done (place (c.site_of.ensures.site k) (c.first_part.ensures.part k)) (c.requires.name k) c.args.plan.now.parts x.0 (c.in-Ok.ensures k)) x.1))
    c.act.ensures.ok
