use Rattle.std.proofs.Common.{◌≡◌, List, [], ◌∷◌, sym, ap, ◌∙◌, subst}
use Rattle.txn_session.specs.Session.{SessionState}
use Rattle.txn_session.proofs.Results.{if_ok}
use Rattle.client_pool.specs.Deeds.{Reads}
use Rattle.client_pool.specs.Sessions.{reading}
use Rattle.client_pool.specs.Works.{HasOpen}
use Rattle.client_pool.proofs.Coming.{ready_next, came_more}
use Rattle.client_pool.proofs.Working.{reading_is, came_as}
use Rattle.client_pool.proofs.transaction.read_both.Goals as goal

pub read-pass-requires-2-clause-ready : goal.read-pass-requires-2-clause-ready
read-pass-requires-2-clause-ready g c =
    let a = if_ok _ _ _ c.in-Ok.is c.only.ensures.ok in
    let come = if_ok _ _ _ a.1 c.read-pass.ensures.ok in
    ready_next g.S.Store.sees g.S.Store.numbers c.args.store c.args.pass c.read-pass.result.0 c.args.session.now c.read-pass.new.session (reading c.args.session.now.doing c.args.work.now.first) c.requires.ready come

pub returns-in-Ok-only-clause-ok : goal.returns-in-Ok-only-clause-ok
returns-in-Ok-only-clause-ok g c tx os h =
    let s = c.args.session.now in let t = c.read-pass.new.session in let u = c.read-pass-2.new.session in
    let a = if_ok _ _ _ c.in-Ok.is c.only.ensures.ok in
    let b = if_ok _ _ _ c.in-Ok-only.is c.only-2.ensures.ok in
    let one = if_ok _ _ _ a.1 c.read-pass.ensures.ok in
    let two = if_ok _ _ _ b.1 c.read-pass-2.ensures.ok in
    let first = came_as g.S.Store.sees g.S.Store.numbers c.args.store c.args.pass c.read-pass.result.0 s t _ (Reads tx c.args.work.now.first ∷ []) (reading_is s tx os c.args.work.now.first h) one in
    let h2 = subst (λ (w : SessionState g.row.C-Effect.Denot). HasOpen w tx os) (sym c.read-pass.ensures.as_before) h in
    let second = came_as g.S.Store.sees g.S.Store.numbers c.args.store c.read-pass.result.0 c.read-pass-2.result.0 t u _ (Reads tx c.args.work.now.second ∷ []) (reading_is t tx os c.args.work.now.second h2) two in
    came_more g.S.Store.sees g.S.Store.numbers c.args.store c.args.pass c.read-pass.result.0 c.read-pass-2.result.0 s t u (Reads tx c.args.work.now.first ∷ []) (Reads tx c.args.work.now.second ∷ []) first second
