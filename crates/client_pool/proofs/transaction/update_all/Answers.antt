use Rattle.std.proofs.Common.{◌≡◌, List, [], ◌∷◌, ◌++◌, sym, ap, ◌∙◌, subst}
use Rattle.txn_session.specs.Session.{SessionState}
use Rattle.txn_session.proofs.Results.{if_ok}
use Rattle.client_pool.specs.Deeds.{Updates}
use Rattle.client_pool.specs.Sessions.{updating}
use Rattle.client_pool.specs.Works.{HasOpen}
use Rattle.client_pool.proofs.Coming.{ready_next, came_more}
use Rattle.client_pool.proofs.Working.{updating_is, opened_more, three_more, came_as}
use Rattle.client_pool.proofs.transaction.update_all.Goals as goal

pub update-pass-requires-2-clause-ready : goal.update-pass-requires-2-clause-ready
update-pass-requires-2-clause-ready g c =
    let s = c.args.session.now in let t = c.update-pass.new.session in let w = c.args.work.now in
    let a = if_ok _ _ _ c.in-Ok.is c.only.ensures.ok in
    let one = if_ok _ _ _ a.1 c.update-pass.ensures.ok in
    let ready2 = ready_next g.S.Store.sees g.S.Store.numbers c.args.store c.args.pass c.update-pass.result.0 s t (updating s.doing w.first w.increment) c.requires.ready one in
    ready2

pub update-pass-requires-3-clause-ready : goal.update-pass-requires-3-clause-ready
update-pass-requires-3-clause-ready g c =
    let s = c.args.session.now in let t = c.update-pass.new.session in let w = c.args.work.now in
    let a = if_ok _ _ _ c.in-Ok.is c.only.ensures.ok in
    let one = if_ok _ _ _ a.1 c.update-pass.ensures.ok in
    let ready2 = ready_next g.S.Store.sees g.S.Store.numbers c.args.store c.args.pass c.update-pass.result.0 s t (updating s.doing w.first w.increment) c.requires.ready one in
    let u = c.update-pass-2.new.session in
    let b = if_ok _ _ _ c.in-Ok-only.is c.only-2.ensures.ok in
    let two = if_ok _ _ _ b.1 c.update-pass-2.ensures.ok in
    let ready3 = ready_next g.S.Store.sees g.S.Store.numbers c.args.store c.update-pass.result.0 c.update-pass-2.result.0 t u (updating t.doing w.second w.decrement) ready2 two in
    ready3

pub returns-in-Ok-only-2-clause-open : goal.returns-in-Ok-only-2-clause-open
returns-in-Ok-only-2-clause-open g c tx os h =
    let s = c.args.session.now in let t = c.update-pass.new.session in let w = c.args.work.now in
    let a = if_ok _ _ _ c.in-Ok.is c.only.ensures.ok in
    let one = if_ok _ _ _ a.1 c.update-pass.ensures.ok in
    let ready2 = ready_next g.S.Store.sees g.S.Store.numbers c.args.store c.args.pass c.update-pass.result.0 s t (updating s.doing w.first w.increment) c.requires.ready one in
    let u = c.update-pass-2.new.session in
    let b = if_ok _ _ _ c.in-Ok-only.is c.only-2.ensures.ok in
    let two = if_ok _ _ _ b.1 c.update-pass-2.ensures.ok in
    let ready3 = ready_next g.S.Store.sees g.S.Store.numbers c.args.store c.update-pass.result.0 c.update-pass-2.result.0 t u (updating t.doing w.second w.decrement) ready2 two in
    let v = c.update-pass-3.new.session in
    let d = if_ok _ _ _ c.in-Ok-only-2.is c.only-3.ensures.ok in
    let three = if_ok _ _ _ d.1 c.update-pass-3.ensures.ok in
    let ha = opened_more s t tx os w.first (if_ok _ _ _ a.1 c.update-pass.ensures.updated) h in
    let hb = opened_more t u tx (os ++ w.first ∷ []) w.second (if_ok _ _ _ b.1 c.update-pass-2.ensures.updated) ha in
    let hc = opened_more u v tx ((os ++ w.first ∷ []) ++ w.second ∷ []) w.names (if_ok _ _ _ d.1 c.update-pass-3.ensures.updated) hb in
    subst (λ l. HasOpen v tx l) (three_more os w.first w.second w.names) hc

pub returns-in-Ok-only-2-clause-ok : goal.returns-in-Ok-only-2-clause-ok
returns-in-Ok-only-2-clause-ok g c tx os h =
    let s = c.args.session.now in let t = c.update-pass.new.session in let w = c.args.work.now in
    let a = if_ok _ _ _ c.in-Ok.is c.only.ensures.ok in
    let one = if_ok _ _ _ a.1 c.update-pass.ensures.ok in
    let ready2 = ready_next g.S.Store.sees g.S.Store.numbers c.args.store c.args.pass c.update-pass.result.0 s t (updating s.doing w.first w.increment) c.requires.ready one in
    let u = c.update-pass-2.new.session in
    let b = if_ok _ _ _ c.in-Ok-only.is c.only-2.ensures.ok in
    let two = if_ok _ _ _ b.1 c.update-pass-2.ensures.ok in
    let ready3 = ready_next g.S.Store.sees g.S.Store.numbers c.args.store c.update-pass.result.0 c.update-pass-2.result.0 t u (updating t.doing w.second w.decrement) ready2 two in
    let v = c.update-pass-3.new.session in
    let d = if_ok _ _ _ c.in-Ok-only-2.is c.only-3.ensures.ok in
    let three = if_ok _ _ _ d.1 c.update-pass-3.ensures.ok in
    let ha = opened_more s t tx os w.first (if_ok _ _ _ a.1 c.update-pass.ensures.updated) h in
    let hb = opened_more t u tx (os ++ w.first ∷ []) w.second (if_ok _ _ _ b.1 c.update-pass-2.ensures.updated) ha in
    let x = came_as g.S.Store.sees g.S.Store.numbers c.args.store c.args.pass c.update-pass.result.0 s t _ (Updates tx w.first w.increment ∷ []) (updating_is s tx os w.first w.increment h) one in
    let y = came_as g.S.Store.sees g.S.Store.numbers c.args.store c.update-pass.result.0 c.update-pass-2.result.0 t u _ (Updates tx w.second w.decrement ∷ []) (updating_is t tx (os ++ w.first ∷ []) w.second w.decrement ha) two in
    let z = came_as g.S.Store.sees g.S.Store.numbers c.args.store c.update-pass-2.result.0 c.update-pass-3.result.0 u v _ (Updates tx w.names w.addition ∷ []) (updating_is u tx ((os ++ w.first ∷ []) ++ w.second ∷ []) w.names w.addition hb) three in
    let xy = came_more g.S.Store.sees g.S.Store.numbers c.args.store c.args.pass c.update-pass.result.0 c.update-pass-2.result.0 s t u (Updates tx w.first w.increment ∷ []) (Updates tx w.second w.decrement ∷ []) x y in
    came_more g.S.Store.sees g.S.Store.numbers c.args.store c.args.pass c.update-pass-2.result.0 c.update-pass-3.result.0 s u v (Updates tx w.second w.decrement ∷ Updates tx w.first w.increment ∷ []) (Updates tx w.names w.addition ∷ []) xy z
