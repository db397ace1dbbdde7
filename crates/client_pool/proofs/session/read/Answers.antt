use Rattle.std.proofs.Common.{◌≡◌, refl, sym, ◌∙◌, subst, [], List}
use Rattle.txn_session.specs.Calls.{Call}
use Rattle.txn_session.specs.Session.{SessionState}
use Rattle.txn_session.specs.Holds.{Mays}
use Rattle.txn_session.specs.SessionWaits.{ReadsLater}
use Rattle.client_pool.specs.Coming.{Came, HasDown}
use Rattle.txn_session.proofs.Results.{if_ok}
use Rattle.client_pool.proofs.Telling.{told_done, told_again, told_stopped}
use Rattle.client_pool.proofs.Coming.{ready_may, ready_next}
use Rattle.client_pool.proofs.Asking.{clause_here, read_ends, read_again, read_stopped}
use Rattle.client_pool.proofs.session.read.Goals as goal

pub read_wait-next-requires-clause-holds : goal.read_wait-next-requires-clause-holds
read_wait-next-requires-clause-holds g c =
    let came = subst (λ (w : SessionState g.row.C-Effect.Denot). Came g.S.Store.sees g.S.Store.numbers c.args.store c.args.pass c.args.session.now c.loop.pass w []) (sym c.loop.invariant.1) c.loop.invariant.2 in
    let at = ready_next g.S.Store.sees g.S.Store.numbers c.args.store c.args.pass c.loop.pass c.args.session.now c.loop.session [] c.requires.ready came in
    subst (λ w. Mays g.S.Store.sees g.S.Store.numbers w c.loop.pass c.loop.session) (sym c.loop.invariant.0) (ready_may g.S.Store.sees g.S.Store.numbers c.args.store c.loop.pass c.loop.session at)

pub returns-in-Done-clause-ok : goal.returns-in-Done-clause-ok
returns-in-Done-clause-ok g c =
    let r = c.read_wait-next in let v = c.loop.invariant in
    let came = subst (λ (w : SessionState g.row.C-Effect.Denot). Came g.S.Store.sees g.S.Store.numbers c.args.store c.args.pass c.args.session.now c.loop.pass w []) (sym c.loop.invariant.1) c.loop.invariant.2 in
    let t = told_done r.result.1 c.in-Done.line (sym c.told.ensures ∙ c.in-Done.is) in
    let stays = c.requires.shared.same c.loop.store r.new.store r.ensures.stays in
    let h = clause_here g.S.Store.sees (λ w run. ReadsLater g.S.Store.sees g.S.Store.numbers (g.K.Clock.shows c.args.clock.now) w r.result.0 run c.loop.session r.new.self c.args.object.now c.in-Done.line c.loop.session.doing) c.args.store c.loop.store r.new.store c.loop.pass c.loop.session v.0 stays (if_ok _ _ _ t.0 r.ensures.reads) in
    read_ends g.S.Store.sees g.S.Store.numbers c.args.store (g.K.Clock.shows c.args.clock.now) c.args.pass c.loop.pass r.result.0 c.args.session.now c.loop.session r.new.self came v.1 r.ensures.as_before c.requires.open r.ensures.same c.args.object.now c.in-Done.line h t.1

pub returns-in-Stopped-clause-err : goal.returns-in-Stopped-clause-err
returns-in-Stopped-clause-err g c =
    let r = c.read_wait-next in let v = c.loop.invariant in
    let came = subst (λ (w : SessionState g.row.C-Effect.Denot). Came g.S.Store.sees g.S.Store.numbers c.args.store c.args.pass c.args.session.now c.loop.pass w []) (sym c.loop.invariant.1) c.loop.invariant.2 in
    let t = told_stopped r.result.1 (sym c.told.ensures ∙ c.in-Stopped.is) in
    let stays = c.requires.shared.same c.loop.store r.new.store r.ensures.stays in
    let h = clause_here g.S.Store.sees (λ w run. ReadsLater g.S.Store.sees g.S.Store.numbers (g.K.Clock.shows c.args.clock.now) w r.result.0 run c.loop.session r.new.self c.args.object.now t.0 c.loop.session.doing) c.args.store c.loop.store r.new.store c.loop.pass c.loop.session v.0 stays (if_ok _ _ _ t.1 r.ensures.reads) in
    subst (HasDown g.S.Store.sees g.S.Store.numbers c.args.store r.result.0) (sym c.place_for.ensures)
    (read_stopped g.S.Store.sees g.S.Store.numbers c.args.store (g.K.Clock.shows c.args.clock.now) c.args.pass c.loop.pass r.result.0 c.args.session.now c.loop.session r.new.self came v.1 r.ensures.as_before c.requires.open r.ensures.same c.args.object.now t.0 h t.2 c.requires.ready)

pub loop-preserved : goal.loop-preserved
loop-preserved g c =
    let r = c.read_wait-next in let v = c.loop.invariant in
    let came = subst (λ (w : SessionState g.row.C-Effect.Denot). Came g.S.Store.sees g.S.Store.numbers c.args.store c.args.pass c.args.session.now c.loop.pass w []) (sym c.loop.invariant.1) c.loop.invariant.2 in
    let t = told_again r.result.1 (sym c.told.ensures ∙ c.in-Again.is) in
    let stays = c.requires.shared.same c.loop.store r.new.store r.ensures.stays in
    let h = clause_here g.S.Store.sees (λ w run. ReadsLater g.S.Store.sees g.S.Store.numbers (g.K.Clock.shows c.args.clock.now) w r.result.0 run c.loop.session r.new.self c.args.object.now t.0 c.loop.session.doing) c.args.store c.loop.store r.new.store c.loop.pass c.loop.session v.0 stays (if_ok _ _ _ t.1 r.ensures.reads) in
    let come = read_again g.S.Store.sees g.S.Store.numbers c.args.store (g.K.Clock.shows c.args.clock.now) c.args.pass c.loop.pass r.result.0 c.args.session.now c.loop.session r.new.self came v.1 r.ensures.as_before c.requires.open r.ensures.same c.args.object.now t.0 h t.2 in
    (stays ∙ v.0, r.ensures.as_before ∙ v.1, subst (λ (w : SessionState g.row.C-Effect.Denot). Came g.S.Store.sees g.S.Store.numbers c.args.store c.args.pass c.args.session.now r.result.0 w []) (r.ensures.as_before ∙ v.1) come)
