use Rattle.std.proofs.Common.{◌≡◌, List, [], ◌∷◌, refl, sym, ap, ◌∙◌, subst}
use Rattle.std.specs.Prelude.{map}
use Rattle.crdt_core.specs.declared.record.Upd.{Upd}
use Rattle.txn_session.proofs.Results.{if_ok}
use Rattle.client_pool.specs.Deeds.{Ticks, Begins}
use Rattle.client_pool.specs.Commits.{place}
use Rattle.client_pool.proofs.Coming.{ready_next, came_more}
use Rattle.client_pool.proofs.Working.{came_as}
use Rattle.client_pool.proofs.transaction.start.Goals as goal

pub begin-pass-requires-clause-ready : goal.begin-pass-requires-clause-ready
begin-pass-requires-clause-ready g c =
    let s = c.args.session.now in
    let a = if_ok _ _ _ c.in-Ok.is c.only.ensures.ok in
    let ticked = if_ok _ _ _ a.1 c.tick-pass.ensures.ok in
    ready_next g.S.Store.sees g.S.Store.numbers c.args.store c.args.pass c.tick-pass.result.0 s s (Ticks c.args.at ∷ []) c.requires.ready ticked

pub returns-in-Ok-only-clause-ok : goal.returns-in-Ok-only-clause-ok
returns-in-Ok-only-clause-ok g c =
    let s = c.args.session.now in let u = c.begin-pass.new.session in let at = c.args.at in
    let a = if_ok _ _ _ c.in-Ok.is c.only.ensures.ok in
    let ticked = if_ok _ _ _ a.1 c.tick-pass.ensures.ok in
    let d = if_ok _ _ _ c.in-Ok-only.is c.only-2.ensures.ok in
    let b = if_ok _ _ _ d.1 c.begin-pass.ensures.ok in
    let begun = came_as g.S.Store.sees g.S.Store.numbers c.args.store c.tick-pass.result.0 c.begin-pass.result.0 s u _ (Begins at s.name b.txn.tx ∷ []) (ap (λ n. Begins (place n at.part) s.name b.txn.tx ∷ []) c.requires.site) b.came in
    record {
      tx = b.txn.tx;
      opened = record { txn = b.txn; opened = b.opened; named = refl; objects = ap (map (λ (v : Upd g.row.C-Effect.Denot). v.object)) b.empty };
      named = b.named;
      came = came_more g.S.Store.sees g.S.Store.numbers c.args.store c.args.pass c.tick-pass.result.0 c.begin-pass.result.0 s s u (Ticks at ∷ []) (Begins at s.name b.txn.tx ∷ []) ticked begun;
    }
