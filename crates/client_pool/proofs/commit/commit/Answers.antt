use Rattle.std.proofs.Common.{◌≡◌, ℕ, List, [], ◌++◌, refl, sym, ap, ◌∙◌, subst}
use Rattle.txn_session.specs.Calls.{Call}
use Rattle.txn_session.specs.Session.{SessionState}
use Rattle.txn_session.specs.Holds.{Mays, next_of}
use Rattle.txn_session.specs.Opens.{begun_end}
use Rattle.txn_session.specs.SessionWaits.{StepsLater}
use Rattle.txn_session.proofs.Results.{if_ok, ok_map}
use Rattle.std.specs.Prelude.{IfOk}
use Rattle.client_pool.specs.Coming.{Ready, Came, HasDown}
use Rattle.client_pool.specs.Commits.{committing, place}
use Rattle.client_pool.proofs.Coming.{ready_may, ready_next, came_more, session_next}
use Rattle.client_pool.proofs.Asking.{clause_here}
use Rattle.client_pool.proofs.Steps.{went_on, has_stopped, nothing_asked}
use Rattle.client_pool.proofs.Committing.{under_start, under_more, under_stopped, under_left}
use Rattle.client_pool.proofs.commit.commit.Goals as goal

pub loop-init : goal.loop-init
loop-init g c = (refl, under_start g.S.Store.sees g.S.Store.numbers c.args.store c.args.pass c.args.session.now c.requires.open)

pub commit_step_wait-next-requires-clause-holds : goal.commit_step_wait-next-requires-clause-holds
commit_step_wait-next-requires-clause-holds g c =
    let x = c.loop.invariant.1 in
    let at = ready_next g.S.Store.sees g.S.Store.numbers c.args.store c.args.pass c.loop.pass c.args.session.now c.loop.session x.deeds c.requires.ready x.came in
    subst (λ w. Mays g.S.Store.sees g.S.Store.numbers w c.loop.pass c.loop.session) (sym c.loop.invariant.0) (ready_may g.S.Store.sees g.S.Store.numbers c.args.store c.loop.pass c.loop.session at)

pub end-requires-clause-ready : goal.end-requires-clause-ready
end-requires-clause-ready g c =
    let x = c.loop.invariant.1 in
    let at = ready_next g.S.Store.sees g.S.Store.numbers c.args.store c.args.pass c.loop.pass c.args.session.now c.loop.session x.deeds c.requires.ready x.came in
    subst (λ w. Ready g.S.Store.sees g.S.Store.numbers w c.loop.pass c.loop.session) (sym c.loop.invariant.0) at

pub returns-in-None-clause-ok : goal.returns-in-None-clause-ok
returns-in-None-clause-ok g c =
    let x = c.loop.invariant.1 in
    let s = c.args.session.now in
    let left = under_left g.S.Store.sees g.S.Store.numbers c.args.store c.args.pass c.loop.pass s c.loop.session x (sym c.next_part.ensures ∙ c.in-None.is) in
    let h = subst (λ w. IfOk c.end.result.1 (λ u. Came g.S.Store.sees g.S.Store.numbers w c.loop.pass c.loop.session c.end.result.0 c.end.new.session [])) c.loop.invariant.0 c.end.ensures.ok in
    ok_map _ _ c.end.result.1 (λ u d. came_more g.S.Store.sees g.S.Store.numbers c.args.store c.args.pass c.loop.pass c.end.result.0 s c.loop.session c.end.new.session (committing s s.doing) [] left d) h

pub returns-in-Stopped-clause-err : goal.returns-in-Stopped-clause-err
returns-in-Stopped-clause-err g c =
    let r = c.commit_step_wait-next in let x = c.loop.invariant.1 in
    let t = has_stopped r.result.1 (sym c.progress_of.ensures ∙ c.in-Stopped.is) in
    let b = begun_end c.loop.session in
    let stays = c.requires.shared.same c.loop.store r.new.store r.ensures.stays in
    let h = clause_here g.S.Store.sees (λ w run. StepsLater g.S.Store.sees g.S.Store.numbers (g.K.Clock.shows c.args.clock.now) w r.result.0 run b r.new.self t.0.0 b.doing (next_of b.doing)) c.args.store c.loop.store r.new.store c.loop.pass c.loop.session c.loop.invariant.0 stays (if_ok _ _ _ t.1 r.ensures.steps) in
    let us = if_ok _ _ _ t.1 r.ensures.stepped in
    let asks = sym c.next_part.ensures ∙ c.in-Some.is in
    subst (λ k. HasDown g.S.Store.sees g.S.Store.numbers c.args.store r.result.0 (place k c.in-Some.part)) (sym c.site-site.ensures)
    (under_stopped g.S.Store.sees g.S.Store.numbers c.args.store (g.K.Clock.shows c.args.clock.now) c.args.pass c.loop.pass r.result.0 c.args.session.now c.loop.session r.new.self x r.ensures.same t.0.0 c.in-Some.part asks us h c.requires.ready t.2)

pub loop-preserved : goal.loop-preserved
loop-preserved g c =
    let r = c.commit_step_wait-next in let x = c.loop.invariant.1 in
    let t = went_on r.result.1 (sym c.progress_of.ensures ∙ c.in-On.is) in
    let b = begun_end c.loop.session in
    let stays = c.requires.shared.same c.loop.store r.new.store r.ensures.stays in
    let h = clause_here g.S.Store.sees (λ w run. StepsLater g.S.Store.sees g.S.Store.numbers (g.K.Clock.shows c.args.clock.now) w r.result.0 run b r.new.self t.0.0 b.doing (next_of b.doing)) c.args.store c.loop.store r.new.store c.loop.pass c.loop.session c.loop.invariant.0 stays (if_ok _ _ _ t.1 r.ensures.steps) in
    let us = if_ok _ _ _ t.1 r.ensures.stepped in
    let asks = sym c.next_part.ensures ∙ c.in-Some.is in
    (stays ∙ c.loop.invariant.0, under_more g.S.Store.sees g.S.Store.numbers c.args.store (g.K.Clock.shows c.args.clock.now) c.args.pass c.loop.pass r.result.0 c.args.session.now c.loop.session r.new.self x r.ensures.same t.0.0 c.in-Some.part asks us h c.requires.ready t.2)
