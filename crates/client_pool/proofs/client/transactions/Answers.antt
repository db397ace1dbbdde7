use Rattle.std.proofs.Common.{◌≡◌, List, [], ◌∷◌, ◌++◌, ◌+◌, length, refl, sym, ap, ◌∙◌, subst, arith}
use Rattle.std.specs.Prelude.{OnOk}
use Rattle.txn_session.specs.Session.{Idle}
use Rattle.txn_session.proofs.Results.{if_ok}
use Rattle.client_pool.specs.Coming.{IsSession}
use Rattle.client_pool.specs.Works.{txn_done, load_done}
use Rattle.client_pool.proofs.Coming.{came_none, came_more, ready_next, session_same, session_next}
use Rattle.client_pool.proofs.Working.{came_as}
use Rattle.client_pool.proofs.client.transactions.Goals as goal

pub loop-j-init : goal.loop-j-init
loop-j-init g c = record {
  named = session_same c.args.session.now;
  idle = c.requires.idle;
  ids = [];
  made = refl;
  came = came_none g.S.Store.sees g.S.Store.numbers c.args.store c.args.pass c.args.session.now;
}

pub transaction-next-requires-clause-ready : goal.transaction-next-requires-clause-ready
transaction-next-requires-clause-ready g c =
    let v = c.loop-j.invariant in
    ready_next g.S.Store.sees g.S.Store.numbers c.args.store c.args.pass c.loop-j.pass c.args.session.now c.loop-j.session (load_done c.args.plan.now c.args.client v.ids) c.requires.ready v.came

pub loop-j-preserved : goal.loop-j-preserved
loop-j-preserved g c =
    let v = c.loop-j.invariant in let r = c.transaction-next in
    let s = c.args.session.now in let t = c.loop-j.session in let u = r.new.session in let j = c.loop-j.j in
    let plan = c.args.plan.now in let i = c.args.client in
    let x = if_ok _ _ _ c.in-Ok.is r.ensures.ok in
    let made = v.made in
    let count : length (x.0 ∷ v.ids) ≡ j + 1 = omega arith in
    let next = came_as g.S.Store.sees g.S.Store.numbers c.args.store c.loop-j.pass r.result.0 t u _ (txn_done plan i (length v.ids + 1) x.0) (ap (λ n. txn_done plan i (n + 1) x.0) (sym made)) x.1 in
    record {
      named = session_next s t u v.named (subst (λ o. OnOk o (IsSession t u)) c.in-Ok.is r.ensures.named);
      idle = subst (λ o. OnOk o (u.doing ≡ Idle)) c.in-Ok.is r.ensures.idle;
      ids = x.0 ∷ v.ids;
      made = count;
      came = came_more g.S.Store.sees g.S.Store.numbers c.args.store c.args.pass c.loop-j.pass r.result.0 s t u (load_done plan i v.ids) (txn_done plan i (length v.ids + 1) x.0) v.came next;
    }
